-- `loading::load_image` meets its contract. Assumes nothing.
use Rattle.loading.proofs.Loaded.{loaded}
use Rattle.loading.proofs.load_image.Goals as goal

pub returns : goal.returns
returns g c = loaded 16817 (g.R.Read.remaining c.args.from) _ c.new-image.ensures.items (rw (c.take.ensures.limit, c.take.ensures.inner) at c.in_ok-read_to_end.ensures.bytes)
