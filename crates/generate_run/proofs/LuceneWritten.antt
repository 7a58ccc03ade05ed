-- The Lucene query of a seed's rule: its depth, its clauses and its text.
use Rattle.std.proofs.Common.{◌≡◌, ◌≤◌, ◌<◌, ℕ, List, [], ◌∷◌, ◌++◌, true, nat_le, length, refl}
use Rattle.std.specs.Prelude.{pos, codes, decimal}
use Rattle.event_schema.specs.Lists.{EachOf}
use Rattle.lucene_layout.specs.Escaped.{pattern_written, term_for, name_for}
use Rattle.lucene_lang.specs.Tokens.{run_sort, is_decimal}
use Rattle.lucene_writer.specs.Queries.{query_depth, query_clauses, query_text}
use Rattle.generate_run.specs.Events.{schema}
use Rattle.generate_run.specs.Words.{words, word}
use Rattle.generate_run.proofs.Fitting.{of_each}
use Rattle.generate_run.proofs.Shapes.{shape}

-- it has few parentheses and clauses, and its text ends with the number and the range's end
pub record IsSmall (k : ℕ) (image user : List ℕ) : Type 0 where
  pub shallow : nat_le (query_depth schema (shape image user (pos k))) 1000 ≡ true
  pub few : nat_le (query_clauses schema (shape image user (pos k))) 1024 ≡ true
  pub front : List ℕ
  pub text : query_text schema (shape image user (pos k)) ≡ front ++ ((decimal k ++ codes " TO *]") ++ codes ")")
  pub short : nat_le (length front) 1000 ≡ true

small_0 : (k j : ℕ) → IsSmall k (codes "cmd.exe") (word j)
unfolding pattern_written term_for name_for run_sort is_decimal
small_0 k j =
    let each : EachOf (IsSmall k (codes "cmd.exe")) words = (
      record { shallow = refl; few = refl; front = codes "Image:cmd.exe OR (NOT User:*cmd.exe* AND Code:["; text = refl; short = refl },
      (
        record { shallow = refl; few = refl; front = codes "Image:cmd.exe OR (NOT User:*CMD.EXE* AND Code:["; text = refl; short = refl },
        (
          record { shallow = refl; few = refl; front = codes "Image:cmd.exe OR (NOT User:*power\\ shell* AND Code:["; text = refl; short = refl },
          (
            record { shallow = refl; few = refl; front = codes "Image:cmd.exe OR (NOT User:*a\\*b* AND Code:["; text = refl; short = refl },
            (
              record { shallow = refl; few = refl; front = codes "Image:cmd.exe OR (NOT User:*100%* AND Code:["; text = refl; short = refl },
              (
                record { shallow = refl; few = refl; front = codes "Image:cmd.exe OR (NOT User:* AND Code:["; text = refl; short = refl },
                (
                  record { shallow = refl; few = refl; front = codes "Image:cmd.exe OR (NOT User:*AND* AND Code:["; text = refl; short = refl },
                  (
                    record { shallow = refl; few = refl; front = codes "Image:cmd.exe OR (NOT User:*x_y* AND Code:["; text = refl; short = refl },
                    tt,
                  ),
                ),
              ),
            ),
          ),
        ),
      ),
    ) in
    of_each (IsSmall k (codes "cmd.exe")) words each (record { shallow = refl; few = refl; front = codes "Image:cmd.exe OR (NOT User:* AND Code:["; text = refl; short = refl }) j

small_1 : (k j : ℕ) → IsSmall k (codes "CMD.EXE") (word j)
unfolding pattern_written term_for name_for run_sort is_decimal
small_1 k j =
    let each : EachOf (IsSmall k (codes "CMD.EXE")) words = (
      record { shallow = refl; few = refl; front = codes "Image:CMD.EXE OR (NOT User:*cmd.exe* AND Code:["; text = refl; short = refl },
      (
        record { shallow = refl; few = refl; front = codes "Image:CMD.EXE OR (NOT User:*CMD.EXE* AND Code:["; text = refl; short = refl },
        (
          record { shallow = refl; few = refl; front = codes "Image:CMD.EXE OR (NOT User:*power\\ shell* AND Code:["; text = refl; short = refl },
          (
            record { shallow = refl; few = refl; front = codes "Image:CMD.EXE OR (NOT User:*a\\*b* AND Code:["; text = refl; short = refl },
            (
              record { shallow = refl; few = refl; front = codes "Image:CMD.EXE OR (NOT User:*100%* AND Code:["; text = refl; short = refl },
              (
                record { shallow = refl; few = refl; front = codes "Image:CMD.EXE OR (NOT User:* AND Code:["; text = refl; short = refl },
                (
                  record { shallow = refl; few = refl; front = codes "Image:CMD.EXE OR (NOT User:*AND* AND Code:["; text = refl; short = refl },
                  (
                    record { shallow = refl; few = refl; front = codes "Image:CMD.EXE OR (NOT User:*x_y* AND Code:["; text = refl; short = refl },
                    tt,
                  ),
                ),
              ),
            ),
          ),
        ),
      ),
    ) in
    of_each (IsSmall k (codes "CMD.EXE")) words each (record { shallow = refl; few = refl; front = codes "Image:CMD.EXE OR (NOT User:* AND Code:["; text = refl; short = refl }) j

small_2 : (k j : ℕ) → IsSmall k (codes "power shell") (word j)
unfolding pattern_written term_for name_for run_sort is_decimal
small_2 k j =
    let each : EachOf (IsSmall k (codes "power shell")) words = (
      record { shallow = refl; few = refl; front = codes "Image:power\\ shell OR (NOT User:*cmd.exe* AND Code:["; text = refl; short = refl },
      (
        record { shallow = refl; few = refl; front = codes "Image:power\\ shell OR (NOT User:*CMD.EXE* AND Code:["; text = refl; short = refl },
        (
          record { shallow = refl; few = refl; front = codes "Image:power\\ shell OR (NOT User:*power\\ shell* AND Code:["; text = refl; short = refl },
          (
            record { shallow = refl; few = refl; front = codes "Image:power\\ shell OR (NOT User:*a\\*b* AND Code:["; text = refl; short = refl },
            (
              record { shallow = refl; few = refl; front = codes "Image:power\\ shell OR (NOT User:*100%* AND Code:["; text = refl; short = refl },
              (
                record { shallow = refl; few = refl; front = codes "Image:power\\ shell OR (NOT User:* AND Code:["; text = refl; short = refl },
                (
                  record { shallow = refl; few = refl; front = codes "Image:power\\ shell OR (NOT User:*AND* AND Code:["; text = refl; short = refl },
                  (
                    record { shallow = refl; few = refl; front = codes "Image:power\\ shell OR (NOT User:*x_y* AND Code:["; text = refl; short = refl },
                    tt,
                  ),
                ),
              ),
            ),
          ),
        ),
      ),
    ) in
    of_each (IsSmall k (codes "power shell")) words each (record { shallow = refl; few = refl; front = codes "Image:power\\ shell OR (NOT User:* AND Code:["; text = refl; short = refl }) j

small_3 : (k j : ℕ) → IsSmall k (codes "a*b") (word j)
unfolding pattern_written term_for name_for run_sort is_decimal
small_3 k j =
    let each : EachOf (IsSmall k (codes "a*b")) words = (
      record { shallow = refl; few = refl; front = codes "Image:a\\*b OR (NOT User:*cmd.exe* AND Code:["; text = refl; short = refl },
      (
        record { shallow = refl; few = refl; front = codes "Image:a\\*b OR (NOT User:*CMD.EXE* AND Code:["; text = refl; short = refl },
        (
          record { shallow = refl; few = refl; front = codes "Image:a\\*b OR (NOT User:*power\\ shell* AND Code:["; text = refl; short = refl },
          (
            record { shallow = refl; few = refl; front = codes "Image:a\\*b OR (NOT User:*a\\*b* AND Code:["; text = refl; short = refl },
            (
              record { shallow = refl; few = refl; front = codes "Image:a\\*b OR (NOT User:*100%* AND Code:["; text = refl; short = refl },
              (
                record { shallow = refl; few = refl; front = codes "Image:a\\*b OR (NOT User:* AND Code:["; text = refl; short = refl },
                (
                  record { shallow = refl; few = refl; front = codes "Image:a\\*b OR (NOT User:*AND* AND Code:["; text = refl; short = refl },
                  (
                    record { shallow = refl; few = refl; front = codes "Image:a\\*b OR (NOT User:*x_y* AND Code:["; text = refl; short = refl },
                    tt,
                  ),
                ),
              ),
            ),
          ),
        ),
      ),
    ) in
    of_each (IsSmall k (codes "a*b")) words each (record { shallow = refl; few = refl; front = codes "Image:a\\*b OR (NOT User:* AND Code:["; text = refl; short = refl }) j

small_4 : (k j : ℕ) → IsSmall k (codes "100%") (word j)
unfolding pattern_written term_for name_for run_sort is_decimal
small_4 k j =
    let each : EachOf (IsSmall k (codes "100%")) words = (
      record { shallow = refl; few = refl; front = codes "Image:100% OR (NOT User:*cmd.exe* AND Code:["; text = refl; short = refl },
      (
        record { shallow = refl; few = refl; front = codes "Image:100% OR (NOT User:*CMD.EXE* AND Code:["; text = refl; short = refl },
        (
          record { shallow = refl; few = refl; front = codes "Image:100% OR (NOT User:*power\\ shell* AND Code:["; text = refl; short = refl },
          (
            record { shallow = refl; few = refl; front = codes "Image:100% OR (NOT User:*a\\*b* AND Code:["; text = refl; short = refl },
            (
              record { shallow = refl; few = refl; front = codes "Image:100% OR (NOT User:*100%* AND Code:["; text = refl; short = refl },
              (
                record { shallow = refl; few = refl; front = codes "Image:100% OR (NOT User:* AND Code:["; text = refl; short = refl },
                (
                  record { shallow = refl; few = refl; front = codes "Image:100% OR (NOT User:*AND* AND Code:["; text = refl; short = refl },
                  (
                    record { shallow = refl; few = refl; front = codes "Image:100% OR (NOT User:*x_y* AND Code:["; text = refl; short = refl },
                    tt,
                  ),
                ),
              ),
            ),
          ),
        ),
      ),
    ) in
    of_each (IsSmall k (codes "100%")) words each (record { shallow = refl; few = refl; front = codes "Image:100% OR (NOT User:* AND Code:["; text = refl; short = refl }) j

small_5 : (k j : ℕ) → IsSmall k [] (word j)
unfolding pattern_written term_for name_for run_sort is_decimal
small_5 k j =
    let each : EachOf (IsSmall k []) words = (
      record { shallow = refl; few = refl; front = codes "(Image:* AND NOT Image:?*) OR (NOT User:*cmd.exe* AND Code:["; text = refl; short = refl },
      (
        record { shallow = refl; few = refl; front = codes "(Image:* AND NOT Image:?*) OR (NOT User:*CMD.EXE* AND Code:["; text = refl; short = refl },
        (
          record { shallow = refl; few = refl; front = codes "(Image:* AND NOT Image:?*) OR (NOT User:*power\\ shell* AND Code:["; text = refl; short = refl },
          (
            record { shallow = refl; few = refl; front = codes "(Image:* AND NOT Image:?*) OR (NOT User:*a\\*b* AND Code:["; text = refl; short = refl },
            (
              record { shallow = refl; few = refl; front = codes "(Image:* AND NOT Image:?*) OR (NOT User:*100%* AND Code:["; text = refl; short = refl },
              (
                record { shallow = refl; few = refl; front = codes "(Image:* AND NOT Image:?*) OR (NOT User:* AND Code:["; text = refl; short = refl },
                (
                  record { shallow = refl; few = refl; front = codes "(Image:* AND NOT Image:?*) OR (NOT User:*AND* AND Code:["; text = refl; short = refl },
                  (
                    record { shallow = refl; few = refl; front = codes "(Image:* AND NOT Image:?*) OR (NOT User:*x_y* AND Code:["; text = refl; short = refl },
                    tt,
                  ),
                ),
              ),
            ),
          ),
        ),
      ),
    ) in
    of_each (IsSmall k []) words each (record { shallow = refl; few = refl; front = codes "(Image:* AND NOT Image:?*) OR (NOT User:* AND Code:["; text = refl; short = refl }) j

small_6 : (k j : ℕ) → IsSmall k (codes "AND") (word j)
unfolding pattern_written term_for name_for run_sort is_decimal
small_6 k j =
    let each : EachOf (IsSmall k (codes "AND")) words = (
      record { shallow = refl; few = refl; front = codes "Image:\\AND OR (NOT User:*cmd.exe* AND Code:["; text = refl; short = refl },
      (
        record { shallow = refl; few = refl; front = codes "Image:\\AND OR (NOT User:*CMD.EXE* AND Code:["; text = refl; short = refl },
        (
          record { shallow = refl; few = refl; front = codes "Image:\\AND OR (NOT User:*power\\ shell* AND Code:["; text = refl; short = refl },
          (
            record { shallow = refl; few = refl; front = codes "Image:\\AND OR (NOT User:*a\\*b* AND Code:["; text = refl; short = refl },
            (
              record { shallow = refl; few = refl; front = codes "Image:\\AND OR (NOT User:*100%* AND Code:["; text = refl; short = refl },
              (
                record { shallow = refl; few = refl; front = codes "Image:\\AND OR (NOT User:* AND Code:["; text = refl; short = refl },
                (
                  record { shallow = refl; few = refl; front = codes "Image:\\AND OR (NOT User:*AND* AND Code:["; text = refl; short = refl },
                  (
                    record { shallow = refl; few = refl; front = codes "Image:\\AND OR (NOT User:*x_y* AND Code:["; text = refl; short = refl },
                    tt,
                  ),
                ),
              ),
            ),
          ),
        ),
      ),
    ) in
    of_each (IsSmall k (codes "AND")) words each (record { shallow = refl; few = refl; front = codes "Image:\\AND OR (NOT User:* AND Code:["; text = refl; short = refl }) j

small_7 : (k j : ℕ) → IsSmall k (codes "x_y") (word j)
unfolding pattern_written term_for name_for run_sort is_decimal
small_7 k j =
    let each : EachOf (IsSmall k (codes "x_y")) words = (
      record { shallow = refl; few = refl; front = codes "Image:x_y OR (NOT User:*cmd.exe* AND Code:["; text = refl; short = refl },
      (
        record { shallow = refl; few = refl; front = codes "Image:x_y OR (NOT User:*CMD.EXE* AND Code:["; text = refl; short = refl },
        (
          record { shallow = refl; few = refl; front = codes "Image:x_y OR (NOT User:*power\\ shell* AND Code:["; text = refl; short = refl },
          (
            record { shallow = refl; few = refl; front = codes "Image:x_y OR (NOT User:*a\\*b* AND Code:["; text = refl; short = refl },
            (
              record { shallow = refl; few = refl; front = codes "Image:x_y OR (NOT User:*100%* AND Code:["; text = refl; short = refl },
              (
                record { shallow = refl; few = refl; front = codes "Image:x_y OR (NOT User:* AND Code:["; text = refl; short = refl },
                (
                  record { shallow = refl; few = refl; front = codes "Image:x_y OR (NOT User:*AND* AND Code:["; text = refl; short = refl },
                  (
                    record { shallow = refl; few = refl; front = codes "Image:x_y OR (NOT User:*x_y* AND Code:["; text = refl; short = refl },
                    tt,
                  ),
                ),
              ),
            ),
          ),
        ),
      ),
    ) in
    of_each (IsSmall k (codes "x_y")) words each (record { shallow = refl; few = refl; front = codes "Image:x_y OR (NOT User:* AND Code:["; text = refl; short = refl }) j

pub small : (k i j : ℕ) → IsSmall k (word i) (word j)
small k i = of_each (λ image. (j : ℕ) → IsSmall k image (word j)) words (small_0 k, (small_1 k, (small_2 k, (small_3 k, (small_4 k, (small_5 k, (small_6 k, (small_7 k, tt)))))))) (small_5 k) i
