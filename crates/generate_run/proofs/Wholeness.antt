-- The rule of each seed is whole.
use Rattle.std.proofs.Common.{arith, ◌≡◌, ◌<◌, ◌%◌, ℕ, List, [], ◌∷◌, refl}
use Rattle.std.specs.Prelude.{codes, pos, ℤ}
use Rattle.event_schema.specs.Events.{IsWholeNumber}
use Rattle.event_schema.specs.Lists.{EachOf}
use Rattle.event_schema.specs.Names.{IsName}
use Rattle.rule_detections.specs.Whole.{IsWholeDetection}
use Rattle.rule_model.specs.Whole.{IsWhole}
use Rattle.rule_detections.specs.PlainTests.{IsPlainTest}
use Rattle.rule_detections.specs.declared.test.Test.{Test}
use Rattle.generate_run.specs.Draws.{first_draw, second_draw, third_draw}
use Rattle.generate_run.specs.Rules.{is_text, has_text, is_from, asks, rule_of}
use Rattle.generate_run.specs.Words.{words, word}
use Rattle.generate_run.proofs.Fitting.{of_each, small_number}

text_plain : (k : ℕ) → IsPlainTest (is_text (word k))
text_plain k =
    let each : EachOf (λ text. IsPlainTest (is_text text)) words =
    ((refl, refl), ((refl, refl), ((refl, refl), ((refl, refl), ((refl, refl), ((refl, refl), ((refl, refl), ((refl, refl), tt)))))))) in
    of_each (λ text. IsPlainTest (is_text text)) words each (refl, refl) k

part_plain : (k : ℕ) → IsPlainTest (has_text (word k))
part_plain k =
    let each : EachOf (λ text. IsPlainTest (has_text text)) words =
    ((refl, refl), ((refl, refl), ((refl, refl), ((refl, refl), ((refl, refl), ((refl, refl), ((refl, refl), ((refl, refl), tt)))))))) in
    of_each (λ text. IsPlainTest (has_text text)) words each (refl, refl) k

whole : (name field : List ℕ) (test : Test) → IsName field → IsPlainTest test → IsWholeDetection (asks name field test)
whole name field test named plain = record {
  some = tt;
  each = (
    record {
      some = tt;
      each = (record { fields = (tt, (named, tt)); some = tt; each = (record { some = tt; each = (plain, tt) }, tt) }, tt);
    },
    tt,
  );
}

pub rule_whole : (seed : ℕ) → IsWhole (rule_of seed)
rule_whole seed =
    let image = whole (codes "sel1") (codes "Image") (is_text (word (first_draw seed % 8))) (record { legal = refl; scalars = refl }) (text_plain (first_draw seed % 8)) in
    let user = whole (codes "sel2") (codes "User") (has_text (word (second_draw seed % 8))) (record { legal = refl; scalars = refl }) (part_plain (second_draw seed % 8)) in
    let below : third_draw seed % 100 < 100 = omega arith in
    let number : IsWholeNumber (pos (third_draw seed % 100)) = small_number (third_draw seed % 100) below in
    let code = whole (codes "sel3") (codes "Code") (is_from (pos (third_draw seed % 100))) (record { legal = refl; scalars = refl }) number in
    record {
      detections = (image, (user, (code, tt)));
      some = tt;
      conditions = ((omega arith, ((omega arith, (omega arith, tt)), tt)), tt);
    }
