-- The words before and after the open place of a context, and those of a substituted term.
use Rattle.std.specs.Prelude.{List, [], ◌∷◌, ◌++◌, cond, ℕ, ◌-◌, ltb}
use Rattle.terms.specs.Term.{arguments}
use Rattle.terms.specs.Words.{first_variable, words, words_of}
use Rattle.terms.specs.Rewriting.{Context, Substitution}
use Rattle.terms.specs.Rewriting.Context.{hole, inside}

abbrev pub words_before : Context → List ℕ
words_before hole = []
words_before (inside f ss c ts) = f ∷ (words_of (arguments ss) ++ words_before c)

abbrev pub words_after : Context → List ℕ
words_after hole = []
words_after (inside f ss c ts) = words_after c ++ words_of (arguments ts)

-- A symbol stays, and for a variable its image is put.
abbrev pub image_words : Substitution → ℕ → List ℕ
image_words τ w = cond (ltb w first_variable) (w ∷ []) (words (τ (w - first_variable)))
