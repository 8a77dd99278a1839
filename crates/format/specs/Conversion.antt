-- A file of form 1 as one of form 2.
-- Renders: 02, order 4: "a converter, which renumbers and changes no other bit but the form".
use Rattle.std.specs.Prelude.{◌++◌, map}
use Rattle.terms.specs.FirstUse.{first_uses, place_in, rename_word}
use Rattle.format.specs.Layout.{form_number}
use Rattle.format.specs.Format.{Sides, RuleFile}

-- A rule with its variables numbered in order of first use, left side first.
abbrev pub converted_sides : Sides → Sides
converted_sides r =
    let word = rename_word (place_in (first_uses (r.left ++ r.right))) in
    record { left = map word r.left; right = map word r.right }

abbrev pub converted_file : RuleFile → RuleFile
converted_file f = record { form = form_number; signature = f.signature; rules = map converted_sides f.rules }
