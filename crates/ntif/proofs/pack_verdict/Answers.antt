-- `ntif::pack_verdict` meets its contract. Assumes nothing.
use Rattle.ntif.proofs.Checking.{pack-refused}
use Rattle.ntif.proofs.pack_verdict.Goals as goal

pub returns-in-Err : goal.returns-in-Err
returns-in-Err c = pack-refused _ c.in-Err.is c.pack_refusal.ensures
