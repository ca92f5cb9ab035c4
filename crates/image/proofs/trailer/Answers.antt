use Rattle.model.specs.Image.{trailer_of}
use Rattle.image.proofs.trailer.Goals as goal

pub returns : goal.returns
unfolding trailer_of
returns c = rw (c.half.ensures, c.half-2.ensures, c.half-3.ensures, c.half-4.ensures, c.half-5.ensures, c.half-6.ensures, c.half-7.ensures)
