-- The theorems of specs/Statements.antt.
use mathlib.Core.Path.{◌≡◌, ap}
use mathlib.Core.List.{List, []}
use Prim.Native.Nat.{ℕ, ◌+◌, ◌<◌}
use native.Mathlib.Omega.{arith}
use lib.ListN.{length}
use lib.Dec.{lit<}
use Rattle.terms.specs.Signature.{Symbol, symbol_of}
use Rattle.format.specs.Layout.{form_number, first_form, weight_width}
use Rattle.format.specs.Forms.{has_coefficients}
use Rattle.format.specs.Reading.{Source, bit_source, word_source}
use Rattle.format.specs.Reading.Reading.{got}
use Rattle.format.specs.Symbols.{symbols_reader, weight_offset}
use Rattle.format.specs.Format.{RuleFile}
use Rattle.format.specs.Statements.{IsRead, ReadableWellFormed, WellFormedFilesRead, ReadTermWellFormed}
use Rattle.format.specs.Statements.{OldFilesRead, WellFormedReads, WeightsPlaced, FaultsWithin}
use Rattle.format.specs.Statements.IsRead.{from_bytes, from_words}
use Rattle.format.proofs.ReadingLaws.{holds-got}
use Rattle.format.proofs.RankLaws.{symbols-placed}
use Rattle.format.proofs.FormLaws.{taken-old, taken_own, taken-fits}
use Rattle.format.proofs.SymbolLaws.{symbols-of-admissible}
use Rattle.format.proofs.FileLaws.{Readable, bytes-readable, words-readable, file_bits, packed-reads}
use Rattle.format.proofs.FileLaws.{unpacked-reads}
use Rattle.format.proofs.ConversionLaws.{symbols-before, before-heavy}
use Rattle.format.proofs.PromiseLaws.{readable-formed, readable-system}
use Rattle.format.proofs.PromiseLaws.{first-term, whole-term}
use Rattle.format.proofs.TermReading.{first_reads, term-reads, term-heavy, term-refused}
use Rattle.format.proofs.WellFormedLaws.{well-formed-readable}
use Rattle.format.proofs.FaultLaws.{bits-bounded, words-bounded, bytes-fault, words-fault, term-fault}
use Rattle.format.proofs.FaultLaws.{first-fault}

readable : (file : RuleFile) → IsRead file → Readable form_number file
readable file (from_bytes bytes end e) = bytes-readable form_number bytes file end e
readable file (from_words input end e) = words-readable input file end e

pub readable-well-formed : ReadableWellFormed
readable-well-formed file h =
    let r = readable file h in
    (readable-formed form_number file r, readable-system form_number file r, r.ok.form_taken)

pub well-formed-files-read : WellFormedFilesRead
well-formed-files-read file t w =
    let weigh = symbols-of-admissible file.signature w.admissible file.form t w.full w.plain in
    let r = well-formed-readable form_number file t (taken-fits file.form t) w weigh in
    (λ short. (length (file_bits file), packed-reads form_number file r short), unpacked-reads file r)

pub old-files-read : OldFilesRead
old-files-read file = (
  λ bytes end e.
      let r = bytes-readable first_form bytes file end e in
      let old = taken-old file.form r.ok.form_taken in
      (old, readable-formed first_form file r, before-heavy file.signature (rw old at r.ok.symbols_ok)),
  λ (old, w, heavy) short.
      let plain = w.plain (ap has_coefficients old) in
      let now =
      symbols-of-admissible file.signature w.admissible form_number (taken_own form_number) w.full λ e. plain in
      let weigh = symbols-before file.signature heavy now in
      let r = well-formed-readable first_form file (rw old (taken_own first_form)) (rw old (lit< tt)) w (rw old weigh) in
      (length (file_bits file), packed-reads first_form file r short),
)

pub read-term-well-formed : ReadTermWellFormed
read-term-well-formed σ input nodes end = (first-term σ input nodes end, whole-term σ input nodes end)

pub well-formed-reads : WellFormedReads
well-formed-reads σ few t h =
    (λ l e. (term-reads σ few t h l e, first_reads σ few t h l e), term-heavy σ few t h, term-refused σ few t h)

placed : (source : Source) → ((width at v next : ℕ) → source.field width at ≡ got v next →
    next ≡ at + source.moves width) → (form w0 n start : ℕ) (symbols : List Symbol) (end : ℕ) →
    symbols_reader source form w0 n [] start ≡ got symbols end → (f : ℕ) → f < length symbols →
    (next : ℕ) × (source.field weight_width (weight_offset source form start symbols f)
    ≡ got (symbol_of (record { w0 = w0; symbols = symbols }) f).weight next)
placed source moves form w0 n start symbols end e f h =
    let (ss, same, count, later, weights, stand) =
    holds-got _ _ symbols end (symbols-placed source moves form w0 n [] start) e in
    rw same (stand f (omega (arith, ap length same)))

pub weights-placed : WeightsPlaced
weights-placed form w0 n start symbols end f h = (
  λ bytes e. placed (bit_source bytes) (bits-bounded bytes).moves form w0 n start symbols end e f h,
  λ words e. placed (word_source words) (words-bounded words).moves form w0 n start symbols end e f h,
)

pub faults-within : FaultsWithin
faults-within input code offset = (
  bytes-fault input form_number code offset,
  words-fault input code offset,
  λ σ. (term-fault input σ code offset, first-fault input σ code offset),
)
