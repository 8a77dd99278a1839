-- What an operation on two terms has read.
--     inputs_read     the file, and each term by its reader
use mathlib.Core.List.{List}
use mathlib.Core.Path.{◌≡◌, refl, sym, ap}
use mathlib.Core.Bool.{Bool, true, false, false≢true}
use Prim.Native.Nat.{ℕ}
use Rattle.terms.specs.Words.{term_of}
use Rattle.format.specs.Reading.{Reading}
use Rattle.format.specs.Reading.Reading.{got, fault}
use Rattle.format.specs.Format.{RuleFile}
use Rattle.format.specs.Files.{read_bytes}
use Rattle.operations.specs.Replies.{Reply, ◌>>=◌, from_input}
use Rattle.operations.specs.Replies.Reply.{accepted, refused}
use Rattle.operations.specs.Inputs.{TermReader, Inputs, read_terms, read_inputs}

abbrev pub is_accepted : {A : Type 0} → Reply A → Bool
is_accepted (accepted a) = true
is_accepted (refused e) = false

-- What was read of an input, where the reply is an answer.
from-read : {A B : Type 0} (input : ℕ) (r : Reading A) (k : A → Reply B) (b : B) →
    ◌>>=◌ (from_input input r) k ≡ accepted b → (a : A) × (n : ℕ) × (r ≡ got a n) × (k a ≡ accepted b)
from-read input (got a n) k b e = (a, n, refl, e)
from-read input (fault code offset) k b e = absurd (false≢true (ap is_accepted e))

-- The file, and each term by its reader.
pub record InputsRead (reader : TermReader) (bytes left right : List ℕ) (i : Inputs) : Type 0 where
  pub file : RuleFile
  pub end : ℕ
  pub holds : read_bytes bytes ≡ got file end
  pub left_words : List ℕ
  pub left_end : ℕ
  pub left_read : reader file.signature left ≡ got left_words left_end
  pub right_words : List ℕ
  pub right_end : ℕ
  pub right_read : reader file.signature right ≡ got right_words right_end
  pub inputs : i ≡ record {
    signature = file.signature;
    left = term_of file.signature left_words;
    right = term_of file.signature right_words;
  }

pub inputs_read : (reader : TermReader) (bytes left right : List ℕ) (i : Inputs) →
    read_inputs reader bytes left right ≡ accepted i → InputsRead reader bytes left right i
unfolding read_inputs read_terms
inputs_read reader bytes left right i e =
    let (file, end, h, e₁) = from-read 0 (read_bytes bytes) _ i e in
    let (s, m, l, e₂) = from-read 1 (reader file.signature left) _ i e₁ in
    let (t, n, r, e₃) = from-read 2 (reader file.signature right) _ i e₂ in
    record {
      file = file;
      end = end;
      holds = h;
      left_words = s;
      left_end = m;
      left_read = l;
      right_words = t;
      right_end = n;
      right_read = r;
      inputs = sym (accepted-same e₃);
    }
  where
    accepted-same : {A : Type 0} {a b : A} → accepted a ≡ accepted b → a ≡ b
    accepted-same e = cc
