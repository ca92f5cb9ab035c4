-- What going through a row gives: its arrows, and what is said after it. Assumes nothing.
use Rattle.std.specs.Prelude.{◌≡◌, ℕ}
use Rattle.model.specs.Image.{Tables}
use Rattle.text.specs.declared.Page.{Page}
use Rattle.text.specs.Written.{Written}
use Rattle.graph.specs.declared.Said.{Said}
use Rattle.graph.specs.Ways.{said_after, arrows}

pub record Walked (n : ℕ) (x : Tables) (q r : ℕ) (m : Said) (before : Page) (after : Page) (s : Said) : Type 0 where
  pub text : Written (arrows n x q r m) before after
  pub said : s ≡ said_after n x r m
