-- Worked pages files.
use Rattle.std.proofs.Common.{[], ◌∷◌, ◌++◌, refl, arith, None, inr}
use Rattle.std.specs.Prelude.{codes}
use Rattle.entry_line.specs.Chars.{lf}
use Rattle.tap_entry.specs.PagesFile.{plain, a_backslash, a_line_feed, a_return, hexadecimal, IsWritten, IsFile, IsWrongLine}
use Rattle.tap_entry.proofs.PageLines.{id_none, page_id}

-- `\x41`, `\\`, `\n`, `\r`, `\x7e` and `z`
written_escapes : IsWritten (65 ∷ 92 ∷ 10 ∷ 13 ∷ 126 ∷ 122 ∷ []) (92 ∷ 120 ∷ 52 ∷ 49 ∷ 92 ∷ 92 ∷ 92 ∷ 110 ∷ 92 ∷ 114 ∷ 92 ∷ 120 ∷ 55 ∷ 101 ∷ 122 ∷ [])
written_escapes = record {
  signs = hexadecimal 52 49 4 1 ∷ a_backslash ∷ a_line_feed ∷ a_return ∷ hexadecimal 55 101 7 14 ∷ plain 122 ∷ [];
  each = ((refl, refl, omega arith), (tt, (tt, (tt, ((refl, refl, omega arith), ((omega arith, omega arith, (λ e. omega (arith, e))), tt))))));
  form = refl;
  means = refl;
}

-- one page with the text `HI`, and one with no text
two_pages : IsFile (codes "PG1" ++ lf ∷ codes "5551234 HI" ++ lf ∷ codes "9 " ++ lf ∷ []) (record { password = None; pages = record { id = codes "5551234"; text = codes "HI" } ∷ record { id = codes "9"; text = [] } ∷ [] })
two_pages = record {
  short = omega arith;
  whole = record {
    lines = (codes "5551234 HI" ++ lf ∷ []) ∷ (codes "9 " ++ lf ∷ []) ∷ [];
    password = tt;
    each = (
      record {
        characters = codes "HI";
        form = refl;
        text = record { signs = plain 72 ∷ plain 73 ∷ []; each = ((omega arith, omega arith, (λ e. omega (arith, e))), ((omega arith, omega arith, (λ e. omega (arith, e))), tt)); form = refl; means = refl };
        fits = record {
          id_size = omega arith;
          id_some = omega arith;
          id_digits = ((omega arith, omega arith), ((omega arith, omega arith), ((omega arith, omega arith), ((omega arith, omega arith), ((omega arith, omega arith), ((omega arith, omega arith), ((omega arith, omega arith), tt)))))));
          text_size = omega arith;
          text_chars = (omega arith, (omega arith, tt));
        };
      },
      (
        record {
          characters = [];
          form = refl;
          text = record { signs = []; each = tt; form = refl; means = refl };
          fits = record { id_size = omega arith; id_some = omega arith; id_digits = ((omega arith, omega arith), tt); text_size = omega arith; text_chars = tt };
        },
        tt,
      ),
    );
    few = omega arith;
    form = refl;
  };
}

-- an id with a letter
wrong_id : IsWrongLine (codes "PG1" ++ lf ∷ codes "12a X" ++ lf ∷ []) 2
wrong_id = inr (record {
  told = record { password = None; pages = [] };
  behind = codes "12a X" ++ lf ∷ [];
  before = record { lines = []; password = tt; each = tt; few = omega arith; form = refl };
  number = refl;
  some = λ e. cc;
  wrong = inr (λ page line behind h e. id_none (codes "12a X" ++ lf ∷ []) 2 ((omega arith, omega arith), ((omega arith, omega arith), tt)) (omega arith)
      (λ d. let a = d.1 in omega (arith, a)) (λ q p s. cc) page.id _ (page_id _ page behind (record { line = line; line_is = h; form = e })));
})
