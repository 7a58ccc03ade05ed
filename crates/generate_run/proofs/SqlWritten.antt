-- The SQL query of a seed's rule: its depth and its text.
use Rattle.std.proofs.Common.{◌≡◌, ◌≤◌, ◌<◌, ℕ, List, [], ◌∷◌, ◌++◌, true, nat_le, length, refl}
use Rattle.std.specs.Prelude.{pos, codes, decimal}
use Rattle.event_schema.specs.Lists.{EachOf}
use Rattle.sql_layout.specs.Halves.{ors_in_halves, ands_in_halves}
use Rattle.sql_lang.specs.Expression.{depth}
use Rattle.sqlite_writer.specs.Queries.{query_expr, query_text}
use Rattle.generate_run.specs.Events.{schema}
use Rattle.generate_run.specs.Words.{words, word}
use Rattle.generate_run.proofs.Fitting.{of_each}
use Rattle.generate_run.proofs.Shapes.{shape}

-- it isn't deep, and its text ends with the number
pub record IsSmall (k : ℕ) (image user : List ℕ) : Type 0 where
  pub shallow : nat_le (depth (query_expr schema (shape image user (pos k)))) 1000 ≡ true
  pub front : List ℕ
  pub text : query_text schema (shape image user (pos k)) ≡ front ++ (decimal k ++ [])
  pub short : nat_le (length front) 1000 ≡ true

small_0 : (k j : ℕ) → IsSmall k (codes "cmd.exe") (word j)
unfolding ors_in_halves ands_in_halves
small_0 k j =
    let each : EachOf (IsSmall k (codes "cmd.exe")) words = (
      record { shallow = refl; front = codes "SELECT * FROM \"events\" WHERE \"Image\" = 'cmd.exe' COLLATE NOCASE OR NOT (\"User\" IS NOT NULL AND \"User\" LIKE '%cmd.exe%' ESCAPE '\\') AND \"Code\" >= "; text = refl; short = refl },
      (
        record { shallow = refl; front = codes "SELECT * FROM \"events\" WHERE \"Image\" = 'cmd.exe' COLLATE NOCASE OR NOT (\"User\" IS NOT NULL AND \"User\" LIKE '%CMD.EXE%' ESCAPE '\\') AND \"Code\" >= "; text = refl; short = refl },
        (
          record { shallow = refl; front = codes "SELECT * FROM \"events\" WHERE \"Image\" = 'cmd.exe' COLLATE NOCASE OR NOT (\"User\" IS NOT NULL AND \"User\" LIKE '%power shell%' ESCAPE '\\') AND \"Code\" >= "; text = refl; short = refl },
          (
            record { shallow = refl; front = codes "SELECT * FROM \"events\" WHERE \"Image\" = 'cmd.exe' COLLATE NOCASE OR NOT (\"User\" IS NOT NULL AND \"User\" LIKE '%a*b%' ESCAPE '\\') AND \"Code\" >= "; text = refl; short = refl },
            (
              record { shallow = refl; front = codes "SELECT * FROM \"events\" WHERE \"Image\" = 'cmd.exe' COLLATE NOCASE OR NOT (\"User\" IS NOT NULL AND \"User\" LIKE '%100\\%%' ESCAPE '\\') AND \"Code\" >= "; text = refl; short = refl },
              (
                record { shallow = refl; front = codes "SELECT * FROM \"events\" WHERE \"Image\" = 'cmd.exe' COLLATE NOCASE OR NOT (\"User\" IS NOT NULL AND \"User\" LIKE '%' ESCAPE '\\') AND \"Code\" >= "; text = refl; short = refl },
                (
                  record { shallow = refl; front = codes "SELECT * FROM \"events\" WHERE \"Image\" = 'cmd.exe' COLLATE NOCASE OR NOT (\"User\" IS NOT NULL AND \"User\" LIKE '%AND%' ESCAPE '\\') AND \"Code\" >= "; text = refl; short = refl },
                  (
                    record { shallow = refl; front = codes "SELECT * FROM \"events\" WHERE \"Image\" = 'cmd.exe' COLLATE NOCASE OR NOT (\"User\" IS NOT NULL AND \"User\" LIKE '%x\\_y%' ESCAPE '\\') AND \"Code\" >= "; text = refl; short = refl },
                    tt,
                  ),
                ),
              ),
            ),
          ),
        ),
      ),
    ) in
    of_each (IsSmall k (codes "cmd.exe")) words each (record { shallow = refl; front = codes "SELECT * FROM \"events\" WHERE \"Image\" = 'cmd.exe' COLLATE NOCASE OR NOT (\"User\" IS NOT NULL AND \"User\" LIKE '%' ESCAPE '\\') AND \"Code\" >= "; text = refl; short = refl }) j

small_1 : (k j : ℕ) → IsSmall k (codes "CMD.EXE") (word j)
unfolding ors_in_halves ands_in_halves
small_1 k j =
    let each : EachOf (IsSmall k (codes "CMD.EXE")) words = (
      record { shallow = refl; front = codes "SELECT * FROM \"events\" WHERE \"Image\" = 'CMD.EXE' COLLATE NOCASE OR NOT (\"User\" IS NOT NULL AND \"User\" LIKE '%cmd.exe%' ESCAPE '\\') AND \"Code\" >= "; text = refl; short = refl },
      (
        record { shallow = refl; front = codes "SELECT * FROM \"events\" WHERE \"Image\" = 'CMD.EXE' COLLATE NOCASE OR NOT (\"User\" IS NOT NULL AND \"User\" LIKE '%CMD.EXE%' ESCAPE '\\') AND \"Code\" >= "; text = refl; short = refl },
        (
          record { shallow = refl; front = codes "SELECT * FROM \"events\" WHERE \"Image\" = 'CMD.EXE' COLLATE NOCASE OR NOT (\"User\" IS NOT NULL AND \"User\" LIKE '%power shell%' ESCAPE '\\') AND \"Code\" >= "; text = refl; short = refl },
          (
            record { shallow = refl; front = codes "SELECT * FROM \"events\" WHERE \"Image\" = 'CMD.EXE' COLLATE NOCASE OR NOT (\"User\" IS NOT NULL AND \"User\" LIKE '%a*b%' ESCAPE '\\') AND \"Code\" >= "; text = refl; short = refl },
            (
              record { shallow = refl; front = codes "SELECT * FROM \"events\" WHERE \"Image\" = 'CMD.EXE' COLLATE NOCASE OR NOT (\"User\" IS NOT NULL AND \"User\" LIKE '%100\\%%' ESCAPE '\\') AND \"Code\" >= "; text = refl; short = refl },
              (
                record { shallow = refl; front = codes "SELECT * FROM \"events\" WHERE \"Image\" = 'CMD.EXE' COLLATE NOCASE OR NOT (\"User\" IS NOT NULL AND \"User\" LIKE '%' ESCAPE '\\') AND \"Code\" >= "; text = refl; short = refl },
                (
                  record { shallow = refl; front = codes "SELECT * FROM \"events\" WHERE \"Image\" = 'CMD.EXE' COLLATE NOCASE OR NOT (\"User\" IS NOT NULL AND \"User\" LIKE '%AND%' ESCAPE '\\') AND \"Code\" >= "; text = refl; short = refl },
                  (
                    record { shallow = refl; front = codes "SELECT * FROM \"events\" WHERE \"Image\" = 'CMD.EXE' COLLATE NOCASE OR NOT (\"User\" IS NOT NULL AND \"User\" LIKE '%x\\_y%' ESCAPE '\\') AND \"Code\" >= "; text = refl; short = refl },
                    tt,
                  ),
                ),
              ),
            ),
          ),
        ),
      ),
    ) in
    of_each (IsSmall k (codes "CMD.EXE")) words each (record { shallow = refl; front = codes "SELECT * FROM \"events\" WHERE \"Image\" = 'CMD.EXE' COLLATE NOCASE OR NOT (\"User\" IS NOT NULL AND \"User\" LIKE '%' ESCAPE '\\') AND \"Code\" >= "; text = refl; short = refl }) j

small_2 : (k j : ℕ) → IsSmall k (codes "power shell") (word j)
unfolding ors_in_halves ands_in_halves
small_2 k j =
    let each : EachOf (IsSmall k (codes "power shell")) words = (
      record { shallow = refl; front = codes "SELECT * FROM \"events\" WHERE \"Image\" = 'power shell' COLLATE NOCASE OR NOT (\"User\" IS NOT NULL AND \"User\" LIKE '%cmd.exe%' ESCAPE '\\') AND \"Code\" >= "; text = refl; short = refl },
      (
        record { shallow = refl; front = codes "SELECT * FROM \"events\" WHERE \"Image\" = 'power shell' COLLATE NOCASE OR NOT (\"User\" IS NOT NULL AND \"User\" LIKE '%CMD.EXE%' ESCAPE '\\') AND \"Code\" >= "; text = refl; short = refl },
        (
          record { shallow = refl; front = codes "SELECT * FROM \"events\" WHERE \"Image\" = 'power shell' COLLATE NOCASE OR NOT (\"User\" IS NOT NULL AND \"User\" LIKE '%power shell%' ESCAPE '\\') AND \"Code\" >= "; text = refl; short = refl },
          (
            record { shallow = refl; front = codes "SELECT * FROM \"events\" WHERE \"Image\" = 'power shell' COLLATE NOCASE OR NOT (\"User\" IS NOT NULL AND \"User\" LIKE '%a*b%' ESCAPE '\\') AND \"Code\" >= "; text = refl; short = refl },
            (
              record { shallow = refl; front = codes "SELECT * FROM \"events\" WHERE \"Image\" = 'power shell' COLLATE NOCASE OR NOT (\"User\" IS NOT NULL AND \"User\" LIKE '%100\\%%' ESCAPE '\\') AND \"Code\" >= "; text = refl; short = refl },
              (
                record { shallow = refl; front = codes "SELECT * FROM \"events\" WHERE \"Image\" = 'power shell' COLLATE NOCASE OR NOT (\"User\" IS NOT NULL AND \"User\" LIKE '%' ESCAPE '\\') AND \"Code\" >= "; text = refl; short = refl },
                (
                  record { shallow = refl; front = codes "SELECT * FROM \"events\" WHERE \"Image\" = 'power shell' COLLATE NOCASE OR NOT (\"User\" IS NOT NULL AND \"User\" LIKE '%AND%' ESCAPE '\\') AND \"Code\" >= "; text = refl; short = refl },
                  (
                    record { shallow = refl; front = codes "SELECT * FROM \"events\" WHERE \"Image\" = 'power shell' COLLATE NOCASE OR NOT (\"User\" IS NOT NULL AND \"User\" LIKE '%x\\_y%' ESCAPE '\\') AND \"Code\" >= "; text = refl; short = refl },
                    tt,
                  ),
                ),
              ),
            ),
          ),
        ),
      ),
    ) in
    of_each (IsSmall k (codes "power shell")) words each (record { shallow = refl; front = codes "SELECT * FROM \"events\" WHERE \"Image\" = 'power shell' COLLATE NOCASE OR NOT (\"User\" IS NOT NULL AND \"User\" LIKE '%' ESCAPE '\\') AND \"Code\" >= "; text = refl; short = refl }) j

small_3 : (k j : ℕ) → IsSmall k (codes "a*b") (word j)
unfolding ors_in_halves ands_in_halves
small_3 k j =
    let each : EachOf (IsSmall k (codes "a*b")) words = (
      record { shallow = refl; front = codes "SELECT * FROM \"events\" WHERE \"Image\" = 'a*b' COLLATE NOCASE OR NOT (\"User\" IS NOT NULL AND \"User\" LIKE '%cmd.exe%' ESCAPE '\\') AND \"Code\" >= "; text = refl; short = refl },
      (
        record { shallow = refl; front = codes "SELECT * FROM \"events\" WHERE \"Image\" = 'a*b' COLLATE NOCASE OR NOT (\"User\" IS NOT NULL AND \"User\" LIKE '%CMD.EXE%' ESCAPE '\\') AND \"Code\" >= "; text = refl; short = refl },
        (
          record { shallow = refl; front = codes "SELECT * FROM \"events\" WHERE \"Image\" = 'a*b' COLLATE NOCASE OR NOT (\"User\" IS NOT NULL AND \"User\" LIKE '%power shell%' ESCAPE '\\') AND \"Code\" >= "; text = refl; short = refl },
          (
            record { shallow = refl; front = codes "SELECT * FROM \"events\" WHERE \"Image\" = 'a*b' COLLATE NOCASE OR NOT (\"User\" IS NOT NULL AND \"User\" LIKE '%a*b%' ESCAPE '\\') AND \"Code\" >= "; text = refl; short = refl },
            (
              record { shallow = refl; front = codes "SELECT * FROM \"events\" WHERE \"Image\" = 'a*b' COLLATE NOCASE OR NOT (\"User\" IS NOT NULL AND \"User\" LIKE '%100\\%%' ESCAPE '\\') AND \"Code\" >= "; text = refl; short = refl },
              (
                record { shallow = refl; front = codes "SELECT * FROM \"events\" WHERE \"Image\" = 'a*b' COLLATE NOCASE OR NOT (\"User\" IS NOT NULL AND \"User\" LIKE '%' ESCAPE '\\') AND \"Code\" >= "; text = refl; short = refl },
                (
                  record { shallow = refl; front = codes "SELECT * FROM \"events\" WHERE \"Image\" = 'a*b' COLLATE NOCASE OR NOT (\"User\" IS NOT NULL AND \"User\" LIKE '%AND%' ESCAPE '\\') AND \"Code\" >= "; text = refl; short = refl },
                  (
                    record { shallow = refl; front = codes "SELECT * FROM \"events\" WHERE \"Image\" = 'a*b' COLLATE NOCASE OR NOT (\"User\" IS NOT NULL AND \"User\" LIKE '%x\\_y%' ESCAPE '\\') AND \"Code\" >= "; text = refl; short = refl },
                    tt,
                  ),
                ),
              ),
            ),
          ),
        ),
      ),
    ) in
    of_each (IsSmall k (codes "a*b")) words each (record { shallow = refl; front = codes "SELECT * FROM \"events\" WHERE \"Image\" = 'a*b' COLLATE NOCASE OR NOT (\"User\" IS NOT NULL AND \"User\" LIKE '%' ESCAPE '\\') AND \"Code\" >= "; text = refl; short = refl }) j

small_4 : (k j : ℕ) → IsSmall k (codes "100%") (word j)
unfolding ors_in_halves ands_in_halves
small_4 k j =
    let each : EachOf (IsSmall k (codes "100%")) words = (
      record { shallow = refl; front = codes "SELECT * FROM \"events\" WHERE \"Image\" = '100%' COLLATE NOCASE OR NOT (\"User\" IS NOT NULL AND \"User\" LIKE '%cmd.exe%' ESCAPE '\\') AND \"Code\" >= "; text = refl; short = refl },
      (
        record { shallow = refl; front = codes "SELECT * FROM \"events\" WHERE \"Image\" = '100%' COLLATE NOCASE OR NOT (\"User\" IS NOT NULL AND \"User\" LIKE '%CMD.EXE%' ESCAPE '\\') AND \"Code\" >= "; text = refl; short = refl },
        (
          record { shallow = refl; front = codes "SELECT * FROM \"events\" WHERE \"Image\" = '100%' COLLATE NOCASE OR NOT (\"User\" IS NOT NULL AND \"User\" LIKE '%power shell%' ESCAPE '\\') AND \"Code\" >= "; text = refl; short = refl },
          (
            record { shallow = refl; front = codes "SELECT * FROM \"events\" WHERE \"Image\" = '100%' COLLATE NOCASE OR NOT (\"User\" IS NOT NULL AND \"User\" LIKE '%a*b%' ESCAPE '\\') AND \"Code\" >= "; text = refl; short = refl },
            (
              record { shallow = refl; front = codes "SELECT * FROM \"events\" WHERE \"Image\" = '100%' COLLATE NOCASE OR NOT (\"User\" IS NOT NULL AND \"User\" LIKE '%100\\%%' ESCAPE '\\') AND \"Code\" >= "; text = refl; short = refl },
              (
                record { shallow = refl; front = codes "SELECT * FROM \"events\" WHERE \"Image\" = '100%' COLLATE NOCASE OR NOT (\"User\" IS NOT NULL AND \"User\" LIKE '%' ESCAPE '\\') AND \"Code\" >= "; text = refl; short = refl },
                (
                  record { shallow = refl; front = codes "SELECT * FROM \"events\" WHERE \"Image\" = '100%' COLLATE NOCASE OR NOT (\"User\" IS NOT NULL AND \"User\" LIKE '%AND%' ESCAPE '\\') AND \"Code\" >= "; text = refl; short = refl },
                  (
                    record { shallow = refl; front = codes "SELECT * FROM \"events\" WHERE \"Image\" = '100%' COLLATE NOCASE OR NOT (\"User\" IS NOT NULL AND \"User\" LIKE '%x\\_y%' ESCAPE '\\') AND \"Code\" >= "; text = refl; short = refl },
                    tt,
                  ),
                ),
              ),
            ),
          ),
        ),
      ),
    ) in
    of_each (IsSmall k (codes "100%")) words each (record { shallow = refl; front = codes "SELECT * FROM \"events\" WHERE \"Image\" = '100%' COLLATE NOCASE OR NOT (\"User\" IS NOT NULL AND \"User\" LIKE '%' ESCAPE '\\') AND \"Code\" >= "; text = refl; short = refl }) j

small_5 : (k j : ℕ) → IsSmall k [] (word j)
unfolding ors_in_halves ands_in_halves
small_5 k j =
    let each : EachOf (IsSmall k []) words = (
      record { shallow = refl; front = codes "SELECT * FROM \"events\" WHERE \"Image\" = '' COLLATE NOCASE OR NOT (\"User\" IS NOT NULL AND \"User\" LIKE '%cmd.exe%' ESCAPE '\\') AND \"Code\" >= "; text = refl; short = refl },
      (
        record { shallow = refl; front = codes "SELECT * FROM \"events\" WHERE \"Image\" = '' COLLATE NOCASE OR NOT (\"User\" IS NOT NULL AND \"User\" LIKE '%CMD.EXE%' ESCAPE '\\') AND \"Code\" >= "; text = refl; short = refl },
        (
          record { shallow = refl; front = codes "SELECT * FROM \"events\" WHERE \"Image\" = '' COLLATE NOCASE OR NOT (\"User\" IS NOT NULL AND \"User\" LIKE '%power shell%' ESCAPE '\\') AND \"Code\" >= "; text = refl; short = refl },
          (
            record { shallow = refl; front = codes "SELECT * FROM \"events\" WHERE \"Image\" = '' COLLATE NOCASE OR NOT (\"User\" IS NOT NULL AND \"User\" LIKE '%a*b%' ESCAPE '\\') AND \"Code\" >= "; text = refl; short = refl },
            (
              record { shallow = refl; front = codes "SELECT * FROM \"events\" WHERE \"Image\" = '' COLLATE NOCASE OR NOT (\"User\" IS NOT NULL AND \"User\" LIKE '%100\\%%' ESCAPE '\\') AND \"Code\" >= "; text = refl; short = refl },
              (
                record { shallow = refl; front = codes "SELECT * FROM \"events\" WHERE \"Image\" = '' COLLATE NOCASE OR NOT (\"User\" IS NOT NULL AND \"User\" LIKE '%' ESCAPE '\\') AND \"Code\" >= "; text = refl; short = refl },
                (
                  record { shallow = refl; front = codes "SELECT * FROM \"events\" WHERE \"Image\" = '' COLLATE NOCASE OR NOT (\"User\" IS NOT NULL AND \"User\" LIKE '%AND%' ESCAPE '\\') AND \"Code\" >= "; text = refl; short = refl },
                  (
                    record { shallow = refl; front = codes "SELECT * FROM \"events\" WHERE \"Image\" = '' COLLATE NOCASE OR NOT (\"User\" IS NOT NULL AND \"User\" LIKE '%x\\_y%' ESCAPE '\\') AND \"Code\" >= "; text = refl; short = refl },
                    tt,
                  ),
                ),
              ),
            ),
          ),
        ),
      ),
    ) in
    of_each (IsSmall k []) words each (record { shallow = refl; front = codes "SELECT * FROM \"events\" WHERE \"Image\" = '' COLLATE NOCASE OR NOT (\"User\" IS NOT NULL AND \"User\" LIKE '%' ESCAPE '\\') AND \"Code\" >= "; text = refl; short = refl }) j

small_6 : (k j : ℕ) → IsSmall k (codes "AND") (word j)
unfolding ors_in_halves ands_in_halves
small_6 k j =
    let each : EachOf (IsSmall k (codes "AND")) words = (
      record { shallow = refl; front = codes "SELECT * FROM \"events\" WHERE \"Image\" = 'AND' COLLATE NOCASE OR NOT (\"User\" IS NOT NULL AND \"User\" LIKE '%cmd.exe%' ESCAPE '\\') AND \"Code\" >= "; text = refl; short = refl },
      (
        record { shallow = refl; front = codes "SELECT * FROM \"events\" WHERE \"Image\" = 'AND' COLLATE NOCASE OR NOT (\"User\" IS NOT NULL AND \"User\" LIKE '%CMD.EXE%' ESCAPE '\\') AND \"Code\" >= "; text = refl; short = refl },
        (
          record { shallow = refl; front = codes "SELECT * FROM \"events\" WHERE \"Image\" = 'AND' COLLATE NOCASE OR NOT (\"User\" IS NOT NULL AND \"User\" LIKE '%power shell%' ESCAPE '\\') AND \"Code\" >= "; text = refl; short = refl },
          (
            record { shallow = refl; front = codes "SELECT * FROM \"events\" WHERE \"Image\" = 'AND' COLLATE NOCASE OR NOT (\"User\" IS NOT NULL AND \"User\" LIKE '%a*b%' ESCAPE '\\') AND \"Code\" >= "; text = refl; short = refl },
            (
              record { shallow = refl; front = codes "SELECT * FROM \"events\" WHERE \"Image\" = 'AND' COLLATE NOCASE OR NOT (\"User\" IS NOT NULL AND \"User\" LIKE '%100\\%%' ESCAPE '\\') AND \"Code\" >= "; text = refl; short = refl },
              (
                record { shallow = refl; front = codes "SELECT * FROM \"events\" WHERE \"Image\" = 'AND' COLLATE NOCASE OR NOT (\"User\" IS NOT NULL AND \"User\" LIKE '%' ESCAPE '\\') AND \"Code\" >= "; text = refl; short = refl },
                (
                  record { shallow = refl; front = codes "SELECT * FROM \"events\" WHERE \"Image\" = 'AND' COLLATE NOCASE OR NOT (\"User\" IS NOT NULL AND \"User\" LIKE '%AND%' ESCAPE '\\') AND \"Code\" >= "; text = refl; short = refl },
                  (
                    record { shallow = refl; front = codes "SELECT * FROM \"events\" WHERE \"Image\" = 'AND' COLLATE NOCASE OR NOT (\"User\" IS NOT NULL AND \"User\" LIKE '%x\\_y%' ESCAPE '\\') AND \"Code\" >= "; text = refl; short = refl },
                    tt,
                  ),
                ),
              ),
            ),
          ),
        ),
      ),
    ) in
    of_each (IsSmall k (codes "AND")) words each (record { shallow = refl; front = codes "SELECT * FROM \"events\" WHERE \"Image\" = 'AND' COLLATE NOCASE OR NOT (\"User\" IS NOT NULL AND \"User\" LIKE '%' ESCAPE '\\') AND \"Code\" >= "; text = refl; short = refl }) j

small_7 : (k j : ℕ) → IsSmall k (codes "x_y") (word j)
unfolding ors_in_halves ands_in_halves
small_7 k j =
    let each : EachOf (IsSmall k (codes "x_y")) words = (
      record { shallow = refl; front = codes "SELECT * FROM \"events\" WHERE \"Image\" = 'x_y' COLLATE NOCASE OR NOT (\"User\" IS NOT NULL AND \"User\" LIKE '%cmd.exe%' ESCAPE '\\') AND \"Code\" >= "; text = refl; short = refl },
      (
        record { shallow = refl; front = codes "SELECT * FROM \"events\" WHERE \"Image\" = 'x_y' COLLATE NOCASE OR NOT (\"User\" IS NOT NULL AND \"User\" LIKE '%CMD.EXE%' ESCAPE '\\') AND \"Code\" >= "; text = refl; short = refl },
        (
          record { shallow = refl; front = codes "SELECT * FROM \"events\" WHERE \"Image\" = 'x_y' COLLATE NOCASE OR NOT (\"User\" IS NOT NULL AND \"User\" LIKE '%power shell%' ESCAPE '\\') AND \"Code\" >= "; text = refl; short = refl },
          (
            record { shallow = refl; front = codes "SELECT * FROM \"events\" WHERE \"Image\" = 'x_y' COLLATE NOCASE OR NOT (\"User\" IS NOT NULL AND \"User\" LIKE '%a*b%' ESCAPE '\\') AND \"Code\" >= "; text = refl; short = refl },
            (
              record { shallow = refl; front = codes "SELECT * FROM \"events\" WHERE \"Image\" = 'x_y' COLLATE NOCASE OR NOT (\"User\" IS NOT NULL AND \"User\" LIKE '%100\\%%' ESCAPE '\\') AND \"Code\" >= "; text = refl; short = refl },
              (
                record { shallow = refl; front = codes "SELECT * FROM \"events\" WHERE \"Image\" = 'x_y' COLLATE NOCASE OR NOT (\"User\" IS NOT NULL AND \"User\" LIKE '%' ESCAPE '\\') AND \"Code\" >= "; text = refl; short = refl },
                (
                  record { shallow = refl; front = codes "SELECT * FROM \"events\" WHERE \"Image\" = 'x_y' COLLATE NOCASE OR NOT (\"User\" IS NOT NULL AND \"User\" LIKE '%AND%' ESCAPE '\\') AND \"Code\" >= "; text = refl; short = refl },
                  (
                    record { shallow = refl; front = codes "SELECT * FROM \"events\" WHERE \"Image\" = 'x_y' COLLATE NOCASE OR NOT (\"User\" IS NOT NULL AND \"User\" LIKE '%x\\_y%' ESCAPE '\\') AND \"Code\" >= "; text = refl; short = refl },
                    tt,
                  ),
                ),
              ),
            ),
          ),
        ),
      ),
    ) in
    of_each (IsSmall k (codes "x_y")) words each (record { shallow = refl; front = codes "SELECT * FROM \"events\" WHERE \"Image\" = 'x_y' COLLATE NOCASE OR NOT (\"User\" IS NOT NULL AND \"User\" LIKE '%' ESCAPE '\\') AND \"Code\" >= "; text = refl; short = refl }) j

pub small : (k i j : ℕ) → IsSmall k (word i) (word j)
small k i = of_each (λ image. (j : ℕ) → IsSmall k image (word j)) words (small_0 k, (small_1 k, (small_2 k, (small_3 k, (small_4 k, (small_5 k, (small_6 k, (small_7 k, tt)))))))) (small_5 k) i
