use Rattle.graph.proofs.+walk_row.Given as goal

abbrev pub decreases-walk_row : goal.decreases-walk_row
decreases-walk_row l = l.left
