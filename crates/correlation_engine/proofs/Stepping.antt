-- Matches on their way into queues, and one correlation after the other.
use Rattle.std.proofs.Common.{◌≡◌, ℕ, ◌+◌, ◌<◌, ◌≤◌, append-nil, List, [], ◌∷◌, ◌++◌, refl, ap, sym, subst, ◌∙◌, arith, length}
use Rattle.std.proofs.Math.ListN.{set}
use Rattle.std.proofs.lemmas.List.{append_assoc, drop_more, drop_all}
use Rattle.std.proofs.lemmas.Int.{ints}
use Rattle.std.specs.Prelude.{ℤ, ◌≤ℤ◌, get_or, drop}
use Rattle.std.specs.declared.alloc.Global.{Global}
use Rattle.std.specs.declared.vec.Vec.{Vec}
use Rattle.correlation_windows.specs.Heaps.{IsUntil}
use Rattle.correlation_windows.specs.History.{Taken, event_matches}
use Rattle.correlation_windows.specs.Over.{reports_over}
use Rattle.correlation_windows.specs.Queues.{held}
use Rattle.correlation_windows.specs.Ready.{AllAt, grouped}
use Rattle.correlation_windows.specs.declared.bound.Bound.{Bound}
use Rattle.correlation_windows.specs.declared.found.Found.{Found}
use Rattle.correlation_windows.specs.declared.matches.Match.{Match}
use Rattle.correlation_windows.specs.declared.report.Report.{Report}
use Rattle.correlation_windows.proofs.Windowing as windowing
use Rattle.correlation_engine.specs.Steps.{IsPrepared, ArePrepared, IsGrown, reports_each, total_founds}
use Rattle.correlation_engine.specs.declared.watch.Watch.{Watch}

-- the matches of an event have its moment
pub found_at : (b : Bound) (e : Taken) (founds : List Found) → grouped founds ≡ event_matches b e → AllAt e.moment founds
found_at b e founds is = back founds (subst (windowing.AllAt e.moment) (sym is) (windowing.event_matches_at b e))
  where
    back : (fs : List Found) → windowing.AllAt e.moment (grouped fs) → AllAt e.moment fs
    back [] all = tt
    back (f ∷ fs) all = (all.0, back fs all.1)

pub until_later : (s t : ℤ) → s ≤ℤ t → (ms : List Match) → IsUntil s ms → IsUntil t ms
until_later s t le [] all = tt
until_later s t le (m ∷ ms) all = (let first : m.moment ≤ℤ s = all.0 in omega (arith, ints, first, le), until_later s t le ms all.1)

pub grown_self : (w : Watch) → IsGrown w w
grown_self w = record { bound = refl; kind = refl; rules = refl; same = λ g. refl }

-- one correlation more is prepared
prepared_suc : (e : Taken) (ws : List Watch) (fs : List (Vec Found Global)) (w : Watch) (f : Vec Found Global) → ArePrepared e ws fs → length fs < length ws → IsPrepared e w f.items → ArePrepared e (set ws (length fs) w) (fs ++ f ∷ [])
prepared_suc e [] fs w f so lt p = absurd (omega (arith, lt))
prepared_suc e (x ∷ ws) [] w f so lt p = (p, tt)
prepared_suc e (x ∷ ws) (g ∷ fs) w f so lt p = (so.0, prepared_suc e ws fs w f so.1 (omega (arith, lt)) p)

pub prepared_more : (e : Taken) (ws : List Watch) (n : ℕ) (old new : List (Vec Found Global)) (w : Watch) (f : Vec Found Global) → ArePrepared e ws old → length old ≡ n → n < length ws → IsPrepared e w f.items → new ≡ old ++ f ∷ []
    → ArePrepared e (set ws n w) new
prepared_more e ws n old new w f so len lt p is =
    let within : length old < length ws = omega (arith, len, lt) in
    subst (ArePrepared e (set ws n w)) (sym is) (subst (λ (k : ℕ). ArePrepared e (set ws k w) (old ++ f ∷ [])) len (prepared_suc e ws old w f so within p))

-- the correlations behind those that went on are prepared
pub prepared_at : (e : Taken) (n : ℕ) (ws : List Watch) (w : Watch) (f : Vec Found Global) (before rest : List (Vec Found Global)) → n < length ws → before ≡ f ∷ rest → ArePrepared e (drop n ws) before
    → IsPrepared e (get_or ws n w) f.items × ArePrepared e (drop (n + 1) ws) rest
prepared_at e n ws w f before rest lt is so = subst (λ (vs : List Watch). ArePrepared e vs (f ∷ rest)) (drop_more ws n w lt) (subst (ArePrepared e (drop n ws)) is so)

-- the reports of one correlation more
pub each_reported : (e : Taken) (ws : List Watch) (n : ℕ) (w : Watch) (p : ℕ) (old new : List Report) → n < length ws → w ≡ get_or ws n w → p ≡ n
    → new ≡ old ++ reports_over p w.bound (held w.queues.entries) [] (event_matches w.bound e)
    → new ++ reports_each e (n + 1) (drop (n + 1) ws) ≡ old ++ reports_each e n (drop n ws)
each_reported e ws n w p old new lt at same is =
    ap (λ r. r ++ reports_each e (n + 1) (drop (n + 1) ws)) (is ∙ ap (λ (k : ℕ). old ++ reports_over k w.bound (held w.queues.entries) [] (event_matches w.bound e)) same)
    ∙ (append_assoc old (reports_over n w.bound (held w.queues.entries) [] (event_matches w.bound e)) (reports_each e (n + 1) (drop (n + 1) ws))
    ∙ ap (λ vs. old ++ reports_each e n vs) (ap (λ v. v ∷ drop (n + 1) ws) at ∙ sym (drop_more ws n w lt)))

-- the matches of one correlation more
founds_suc : (all : List (Vec Found Global)) (i : ℕ) (d : Vec Found Global) → i < length all → total_founds (drop i all) ≡ length (get_or all i d).items + total_founds (drop (i + 1) all)
founds_suc all i d lt = ap total_founds (drop_more all i d lt)

pub founds_step : (all : List (Vec Found Global)) (i : ℕ) (f : Vec Found Global) → i < length all → f ≡ get_or all i f → total_founds (drop i all) ≡ length f.items + total_founds (drop (i + 1) all)
founds_step all i f lt is = founds_suc all i f lt ∙ ap (λ (v : Vec Found Global). length v.items + total_founds (drop (i + 1) all)) (sym is)

pub founds_end : (all : List (Vec Found Global)) (i : ℕ) → length all ≤ i → total_founds (drop i all) ≡ 0
founds_end all i le = ap total_founds (drop_all i all le)

pub founds_first : (f : Vec Found Global) (before rest : List (Vec Found Global)) (reports capacity : ℕ) → before ≡ f ∷ rest → reports + total_founds before ≤ capacity → reports + length f.items ≤ capacity
founds_first f before rest reports capacity e le = let is : total_founds before ≡ length f.items + total_founds rest = ap total_founds e in omega (arith, is, le)

pub founds_rest : (f : Vec Found Global) (before rest : List (Vec Found Global)) (old new was is : ℕ) → before ≡ f ∷ rest → old + total_founds before ≤ was → new ≤ old + length f.items → is ≡ was → new + total_founds rest ≤ is
founds_rest f before rest old new was is e le few same = let sum : total_founds before ≡ length f.items + total_founds rest = ap total_founds e in omega (arith, sum, le, few, same)

-- all reports are there
pub all_reported : (e : Taken) (ws : List Watch) (n : ℕ) (told start : List Report) (whole : List Report) → length ws ≤ n → told ++ reports_each e n (drop n ws) ≡ start ++ whole → told ≡ start ++ whole
all_reported e ws n told start whole le so = sym (ap (λ vs. told ++ reports_each e n vs) (drop_all n ws le) ∙ append-nil told) ∙ so
