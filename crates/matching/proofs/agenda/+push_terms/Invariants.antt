-- The terms after the first are put before what is pending, and the first before them; the count falls.
use Rattle.matching.proofs.agenda.+push_terms.Given as goal

abbrev pub decreases-push_terms : goal.decreases-push_terms
decreases-push_terms l = l.n
