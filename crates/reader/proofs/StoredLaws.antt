-- The file that is stored where one is read.
--     stored-current    of every form but the first it is the same
--     stored-old        of the first it is the converted one
use mathlib.Core.Path.{◌≡◌}
use mathlib.Core.Bool.{true}
use Rattle.format.specs.Layout.{first_form, form_number}
use Rattle.format.specs.Forms.{is_taken}
use Rattle.format.specs.Format.{RuleFile}
use Rattle.format.specs.Conversion.{converted_file}
use Rattle.format.proofs.FormLaws.{taken-first, taken-old}
use Rattle.reader.specs.File.{stored_file}

pub stored-current : (f : RuleFile) → is_taken form_number f.form ≡ true → stored_file f ≡ f
stored-current f t = rw (taken-first form_number f.form t)

pub stored-old : (f : RuleFile) → is_taken first_form f.form ≡ true → stored_file f ≡ converted_file f
stored-old f t = rw (taken-old f.form t)
