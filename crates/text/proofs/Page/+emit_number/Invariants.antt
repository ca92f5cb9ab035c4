use Rattle.text.proofs.Page.+emit_number.Given as goal

abbrev pub decreases-emit_number : goal.decreases-emit_number
decreases-emit_number l = l.n
