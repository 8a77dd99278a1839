-- What a reader may rely on of a page. Proofs: proofs/Theorems.antt.
-- Renders: 02, order 5: "Two lists of marks and margins that differ never give the same page"; "one line a rule, 64
-- characters and byte 10"; "47-58 the margin"; "65 times N".
use mathlib.Core.List.{List, [], ◌∷◌, ◌++◌, Memᴰ}
use Rattle.std.specs.Prelude.{◌↔◌, ◌≡◌, ℕ, ◌*◌, ◌^◌, ◌≤◌, ◌<◌, ℤ, nat_abs, length}
use Rattle.format.specs.Format.{RuleFile, system_of}
use Rattle.operations.specs.Text.{signed_decimal}
use Rattle.operations.specs.Page.{Entry, columns, page_line, page, Fits, AllFit}
use Rattle.operations.specs.Paging.{entries_of, line_bytes}
use Rattle.guarantees.specs.Guarantees.{Holds}

-- Lists of any length that differ, in length or in an entry, have different pages.
abbrev pub PagesTellApart : Type 0
PagesTellApart = (es fs : List Entry) → AllFit es → AllFit fs → page es ≡ page fs → es ≡ fs

-- 64 characters that can be printed, and byte 10.
pub record IsLine (line : List ℕ) : Type 0 where
  pub characters : List ℕ
  pub count : length characters ≡ 64
  pub printed : (c : ℕ) → Memᴰ c characters → (32 ≤ c) × (c ≤ 126)
  pub ended : line ≡ characters ++ (10 ∷ [])

abbrev pub LinesEven : Type 0
LinesEven = (n : ℕ) (e : Entry) → n < 10 ^ 4 → Fits e → IsLine (page_line n e)

-- A margin below 100,000,000,000 either way has its columns: 4,294,967,295 and its opposite are among them.
abbrev pub MarginsFit : Type 0
MarginsFit = (d : ℤ) → nat_abs d < 10 ^ 11 → length (signed_decimal d) ≤ columns 47 58

-- Whatever a readable book's rules have fits, and its page has 65 times N bytes.
abbrev pub BooksFit : Type 0
BooksFit = (bytes : List ℕ) (file : RuleFile) → Holds bytes file → let es = entries_of (system_of file) in
    AllFit es × (length (page es) ≡ line_bytes * length file.rules)

-- Readable books have the same page exactly if they have the same marks and margins.
abbrev pub BooksToldApart : Type 0
BooksToldApart = (bytes bytes' : List ℕ) (file file' : RuleFile) → Holds bytes file → Holds bytes' file' →
    (page (entries_of (system_of file)) ≡ page (entries_of (system_of file')))
    ↔ (entries_of (system_of file) ≡ entries_of (system_of file'))
