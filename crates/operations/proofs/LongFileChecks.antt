-- Encoding refuses a file that reads and whose packed form would be too long. It has 114 rules between terms of 128
-- nodes, of nine bits each: too much to compute the reading, so that it comes from the theorem on well-formed files.
use mathlib.Core.Path.{◌≡◌, refl}
use mathlib.Core.List.Memᴰ
use mathlib.Core.List.{List, [], ◌∷◌, ◌++◌, flat_map, Memᴰ}
use mathlib.Core.Bool.{false}
use Prim.Native.Nat.{ℕ, suc, zero}
use lib.ListN.{length, replicate}
use lib.Dec.{leb, lit<}
use Rattle.terms.specs.Sample.{entry}
use Rattle.terms.specs.Words.{forest_of}
use Rattle.format.specs.Layout.{max_bytes}
use Rattle.format.specs.Reading.{word_below}
use Rattle.format.specs.Reading.Reading.{got}
use Rattle.format.specs.Symbols.{symbol_reader, symbols_reader, symbol_table_reader}
use Rattle.format.specs.Format.{RuleFile, forest_reader, side_reader, rule_reader, rules_reader, body_reader, file_reader}
use Rattle.format.specs.Files.{whole_reader, read_words}
use Rattle.format.specs.Packing.{items, packed, unpacked}
use Rattle.format.specs.Statements.{WellFormedFile}
use Rattle.format.specs.Statements.IsRead.{from_words}
use Rattle.format.proofs.Theorems.{readable-well-formed, well-formed-files-read}
use Rattle.operations.specs.Replies.Reply.{refused}
use Rattle.operations.specs.Coding.{encoded}

abbrev side : List ℕ
side = replicate 127 0 ++ (1 ∷ [])

-- As many rules over a symbol of arity 1 and a constant.
abbrev file : ℕ → RuleFile
file n = record {
  form = 2;
  signature = record {
    w0 = 1;
    symbols = entry 1 false 1 1 ∷
        entry 0 false 1 0 ∷ [];
  };
  rules = replicate n (record { left = side; right = side });
}

one-reads : read_words (unpacked (file 1)) ≡ got (file 1) 268
unfolding read_words whole_reader file_reader body_reader symbol_table_reader symbols_reader symbol_reader rules_reader
    rule_reader side_reader forest_reader forest_of word_below unpacked items flat_map
one-reads = refl

one-formed : WellFormedFile (file 1)
one-formed = (readable-well-formed (file 1) (from_words (unpacked (file 1)) 268 one-reads)).0

all_same : {A : Type 0} {a b : A} (n : ℕ) → Memᴰ b (replicate n a) → b ≡ a
all_same zero m = absurd (Memᴰ.not-nil m)
all_same (suc n) (Memᴰ.head e) = e
all_same (suc n) (Memᴰ.tail m) = all_same n m

long-formed : WellFormedFile (file 114)
long-formed =
    let within = one-formed.within in
    record {
      admissible = one-formed.admissible;
      full = one-formed.full;
      plain = one-formed.plain;
      some_symbol = one-formed.some_symbol;
      within = record {
        symbol_count = within.symbol_count;
        w0 = within.w0;
        rule_count = lit< tt;
        arity = within.arity;
        weight = within.weight;
        precedence = within.precedence;
        coefficient = within.coefficient;
      };
      sides = λ r m. one-formed.sides r (Memᴰ.head (all_same 114 m));
      light = λ r m. one-formed.light r (Memᴰ.head (all_same 114 m));
      in_turn = λ r m. one-formed.in_turn r (Memᴰ.head (all_same 114 m));
    }

too_long : leb (length (packed (file 114))) max_bytes ≡ false
unfolding packed items flat_map
too_long = refl

long-refused : (output : List ℕ) → encoded (unpacked (file 114)) output ≡
    record { reply = refused (record { code = 1; input = 0; offset = 0 }); output = output }
unfolding encoded
long-refused output = rw ((well-formed-files-read (file 114) refl long-formed).1, too_long)
