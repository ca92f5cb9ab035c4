-- `lowest` meets its contract. Assumes nothing.
use Rattle.sets.proofs.Zeros.{lowest-of}
use Rattle.sets.proofs.lowest.Goals as goal

pub returns : goal.returns
returns c = lowest-of _ c.requires c.ranges.m.fits
