-- All the demands of specs/Statements. Assumes nothing.
use Rattle.demands.specs.Statements.{Demands}
use Rattle.demands.proofs.Sound.{moves-are-transitions}
use Rattle.demands.proofs.Complete.{transitions-are-moves}
use Rattle.demands.proofs.Demand.{demand-three}
use Rattle.demands.proofs.LargestSets.{sets-are-largest}
use Rattle.demands.proofs.ShutOut.{answers-are-determined, shut_out_lem}
use Rattle.demands.proofs.SpeechFigures.{well_spoken-is}
use Rattle.demands.proofs.Judged.{rules-are-judgements}

pub demands : Demands
demands =
    record {
      moves = moves-are-transitions;
      transitions = transitions-are-moves;
      three = demand-three;
      sets = sets-are-largest;
      determined = answers-are-determined;
      shut_out = shut_out_lem moves-are-transitions;
      speech = well_spoken-is;
      rules = rules-are-judgements;
    }
