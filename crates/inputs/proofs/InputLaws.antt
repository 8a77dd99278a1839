-- The ends of reading a file and two terms.
--     term-refused, term-told                a term, by the end that is told
--     left-fault, right-fault, terms-read    two terms
--     book-fault, book-read                  the file, and then the terms
use Rattle.std.specs.Prelude.{Result, Ok, Err}
use Rattle.std.specs.Result.{MatchResult, IsErrAnd}
use mathlib.Core.List.{List}
use mathlib.Core.Path.{◌≡◌, sym, ap, ◌∙◌}
use Prim.Native.Nat.{ℕ, ◌≤◌}
use native.Mathlib.Omega.{arith}
use lib.ListN.{length, take}
use lib.Seq.{length-take-le, take_all}
use Rattle.terms.specs.Signature.{Signature}
use Rattle.format.specs.Errors.{number_of}
use Rattle.format.specs.Reading.{Reading}
use Rattle.format.specs.Reading.Reading.{got, fault}
use Rattle.format.specs.Files.{read_bytes}
use Rattle.format.specs.Statements.{IsTerm}
use Rattle.format.proofs.Theorems.{read-term-well-formed}
use Rattle.operations.specs.declared.Error as code
use Rattle.operations.specs.Enums.{error_of}
use Rattle.operations.specs.Replies.{Reply, from_input}
use Rattle.operations.specs.Replies.Reply.{refused}
use Rattle.operations.specs.Inputs.{Inputs, read_terms, read_inputs}
use Rattle.symbols.specs.Table.{signature_of}
use Rattle.answers.specs.Answer.{end_of, ended, Fault}
use Rattle.words.specs.declared.Extent.{Extent}
use Rattle.words.specs.declared.Extent.TheVariants as extent
use Rattle.words.specs.Terms.{reader_of}
use Rattle.reader.specs.Promise.{IsTable}
use Rattle.inputs.specs.declared.Ends.{Ends}
use Rattle.inputs.specs.Inputs.{TermsAt, TermsRead, BookAt, InputsRead}

-- ---- a term

-- What is told of a fault is the error that it is in an input.
abbrev pub Told : ℕ → Result ℕ Fault → Result ℕ code.Error → Type 0
Told input x y =
    MatchResult x (λ v. y ≡ Ok v)
    (λ f. IsErrAnd y (λ e. error_of e ≡ record { code = number_of f.code; input = input; offset = f.offset }))

pub term-refused : {A : Type 0} (r : Reading A) (x : Result ℕ Fault) (y : Result ℕ code.Error) (input : ℕ)
    (e : code.Error) → ended x ≡ end_of r → Told input x y → y ≡ Err e → from_input input r ≡ refused (error_of e)
term-refused r (Ok v) y input e f told g = let z : Ok v ≡ Err e = cc in absurd (cc)
term-refused (got a next) (Err f) y input e g told h = let z : ◌≡◌ {A = ℕ} 0 1 = cc in absurd (omega arith)
term-refused (fault k o) (Err f) (Ok v) input e g told h = absurd told
term-refused (fault k o) (Err f) (Err d) input e g told h =
    let z : d ≡ e = cc in
    let k' : number_of f.code ≡ k = cc in
    let o' : f.offset ≡ o = cc in
    rw (← z, told, k', o')

pub term-told : {A : Type 0} (r : Reading A) (x : Result ℕ Fault) (y : Result ℕ code.Error) (input n : ℕ) →
    ended x ≡ end_of r → Told input x y → y ≡ Ok n → (a : A) × (r ≡ got a n)
term-told (got a next) (Ok v) y input n e told f = (a, cc)
term-told (fault k o) (Ok v) y input n e told f = let z : ◌≡◌ {A = ℕ} 0 1 = cc in absurd (omega arith)
term-told r (Err g) (Ok v) input n e told f = absurd told
term-told r (Err g) (Err d) input n e told f = let z : Ok n ≡ Err d = cc in absurd (cc)

-- What is read at the front are the words up to the end.
pub record FrontRead (x : Extent) (σ : Signature) (words : List ℕ) (n : ℕ) : Type 0 where
  pub read : reader_of x σ words ≡ got (take n words) n
  pub within : n ≤ length words
  pub term : IsTerm σ (take n words)

front_read : (x : Extent) (σ : Signature) (words nodes : List ℕ) (n : ℕ) → reader_of x σ words ≡ got nodes n →
    FrontRead x σ words n
front_read extent.Whole σ words nodes n e =
    let (all, count, term, light) = (read-term-well-formed σ words nodes n).1 e in
    let front : take n words ≡ nodes = take_all n words (omega (arith, ap length all)) ∙ sym all in
    record { read = rw front e; within = omega (arith, ap length all); term = rw front term }
front_read extent.Front σ words nodes n e =
    let (front, count, term, within, light) = (read-term-well-formed σ words nodes n).0 e in
    record { read = rw (sym front) e; within = within; term = rw (sym front) term }

-- ---- two terms

module _ (x : Extent) (table left right : List ℕ) where
  abbrev σ : Signature
  σ = signature_of table

  abbrev both : Reply Inputs
  both = read_terms (reader_of x) σ left right

  pub left-fault : (e : code.Error) → from_input 1 (reader_of x σ left) ≡ refused (error_of e) →
      both ≡ refused (error_of e)
  unfolding read_terms
  left-fault e f = rw f

  module _ (l : ℕ) (e : (nodes : List ℕ) × (reader_of x σ left ≡ got nodes l)) where
    pub right-fault : (e : code.Error) → from_input 2 (reader_of x σ right) ≡ refused (error_of e) →
        both ≡ refused (error_of e)
    unfolding read_terms
    right-fault e' f = rw (e.1, f)

    pub terms-read : (r : ℕ) → (nodes : List ℕ) × (reader_of x σ right ≡ got nodes r) → IsTable table →
        TermsAt table left right both l r
    unfolding read_terms
    terms-read r f symbols =
        let a = front_read x σ left e.0 l e.1 in
        let b = front_read x σ right f.0 r f.1 in
        record {
          read = rw (a.read, b.read);
          left_within = a.within;
          right_within = b.within;
          decoded = record { symbols = symbols; left = a.term; right = b.term };
        }

-- ---- the file, and then the terms

module _ (x : Extent) (bytes left right : List ℕ) where
  pub book-fault : (e : code.Error) → from_input 0 (read_bytes bytes) ≡ refused (error_of e) →
      read_inputs (reader_of x) bytes left right ≡ refused (error_of e)
  unfolding read_inputs
  book-fault e f = rw f

  pub book-read : (table : List ℕ) (n : ℕ) → BookAt table (read_bytes bytes) n → (r : Result Ends code.Error) →
      TermsRead (take n table) left right
      (read_terms (reader_of x) (signature_of (take n table)) left right) r →
      InputsRead table left right (read_inputs (reader_of x) bytes left right) r
  unfolding read_inputs
  book-read table n b (Ok ends) (same, at) =
      rw (b.read, same ∙ length-take-le n table b.room, ← b.signature) (b.room, at)
  book-read table n b (Err e) at = rw (b.read, ← b.signature) at
