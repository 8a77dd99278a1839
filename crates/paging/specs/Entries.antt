-- The entries of a page, from a list of marks and one of margins.
use Rattle.std.specs.Prelude.{List, [], ◌∷◌, ℕ, ℤ}
use Rattle.operations.specs.Page.{Entry}

abbrev pub entries : List ℕ → List ℤ → List Entry
entries [] ds = []
entries (m ∷ ms) [] = []
entries (m ∷ ms) (d ∷ ds) = record { mark = m; margin = d } ∷ entries ms ds
