-- `row_ways`: one law a code. Assumes nothing.
use mathlib.Core.Path.{refl}
use Rattle.speech.proofs.Row.{then-room, while-room, for-room, select-room, case-room, branch-room, arm-room, condition-of, case-of, do-null, do-assign, do-choose, do-reset, do-communicate, do-to, do-then, do-select, do-case, do-branch, do-arm, do-while, do-for, do-other}
use Rattle.speech.proofs.row_ways.Goals as goal

pub always-requires : goal.always-requires
always-requires c = condition-of c.requires c.fields-w.ensures c.in-50.is

pub at-requires : goal.at-requires
at-requires c = (then-room c.requires c.fields-w.ensures c.in-54.is).0

pub at-requires-in-54 : goal.at-requires-in-54
at-requires-in-54 c = (then-room c.requires c.fields-w.ensures c.in-54.is).1

pub first-requires : goal.first-requires
first-requires c = select-room c.requires c.fields-w.ensures c.in-55.is

pub first-requires-in-56 : goal.first-requires-in-56
first-requires-in-56 c = case-room c.requires c.fields-w.ensures c.in-56.is

pub exhaustive-requires : goal.exhaustive-requires
exhaustive-requires c = case-of c.requires c.fields-w.ensures c.in-56.is

pub at-requires-in-57 : goal.at-requires-in-57
at-requires-in-57 c = (branch-room c.requires c.fields-w.ensures c.in-57.is).0

pub first-requires-in-57 : goal.first-requires-in-57
first-requires-in-57 c = (branch-room c.requires c.fields-w.ensures c.in-57.is).1

pub at-requires-in-58 : goal.at-requires-in-58
at-requires-in-58 c = (arm-room c.requires c.fields-w.ensures c.in-58.is).0

pub first-requires-in-58 : goal.first-requires-in-58
first-requires-in-58 c = (arm-room c.requires c.fields-w.ensures c.in-58.is).1

pub at-requires-in-59 : goal.at-requires-in-59
at-requires-in-59 c = while-room c.requires c.fields-w.ensures c.in-59.is

pub at-requires-in-60 : goal.at-requires-in-60
at-requires-in-60 c = for-room c.requires c.fields-w.ensures c.in-60.is

pub returns-in-48 : goal.returns-in-48
returns-in-48 c = do-null c.requires c.fields-w.ensures c.in-48.is c.kept.ensures

pub returns-in-49 : goal.returns-in-49
returns-in-49 c = do-assign c.requires c.fields-w.ensures c.in-49.is c.kept-in-49.ensures

pub returns-in-50 : goal.returns-in-50
returns-in-50 c = do-choose c.requires c.fields-w.ensures c.in-50.is c.kept-in-50.ensures c.always.ensures c.spoken_needs.ensures

pub returns-in-51 : goal.returns-in-51
returns-in-51 c = do-reset c.requires c.fields-w.ensures c.in-51.is c.kept-in-51.ensures

pub returns-in-52 : goal.returns-in-52
returns-in-52 c = do-communicate c.requires c.fields-w.ensures c.in-52.is c.said.ensures

pub returns-in-53 : goal.returns-in-53
returns-in-53 c = do-to c.requires c.fields-w.ensures c.in-53.is c.nowhere.ensures

pub returns-in-54 : goal.returns-in-54
returns-in-54 c = do-then c.requires c.fields-w.ensures c.in-54.is c.at.ensures c.at-in-54.ensures c.then.ensures

pub returns-in-55 : goal.returns-in-55
returns-in-55 c = do-select c.requires c.fields-w.ensures c.in-55.is c.first.ensures refl c.spoken_needs-in-55.ensures

pub returns-in-56 : goal.returns-in-56
returns-in-56 c = do-case c.requires c.fields-w.ensures c.in-56.is c.first-in-56.ensures c.exhaustive.ensures c.spoken_needs-in-56.ensures

pub returns-in-57 : goal.returns-in-57
returns-in-57 c = do-branch c.requires c.fields-w.ensures c.in-57.is c.at-in-57.ensures c.first-in-57.ensures c.either.ensures

pub returns-in-58 : goal.returns-in-58
returns-in-58 c = do-arm c.requires c.fields-w.ensures c.in-58.is c.at-in-58.ensures c.first-in-58.ensures c.either-in-58.ensures

pub returns-in-59 : goal.returns-in-59
returns-in-59 c = do-while c.requires c.fields-w.ensures c.in-59.is c.at-in-59.ensures c.while_loop.ensures

pub returns-in-60 : goal.returns-in-60
returns-in-60 c = do-for c.requires c.fields-w.ensures c.in-60.is c.at-in-60.ensures c.for_loop.ensures

pub returns-in_default : goal.returns-in_default
returns-in_default c = do-other c.requires c.fields-w.ensures c.in_default.in_default-own.rest c.nowhere-in_default.ensures
