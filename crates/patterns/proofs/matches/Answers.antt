-- `matches`: a match is its variable bound, and what the pattern gives then. Assumes nothing.
use Rattle.values.proofs.Held.{held-is}
use Rattle.patterns.proofs.Tried.{bound-runs, gives-matched, gives-failed, gives-unsure}
use Rattle.patterns.proofs.matches.Goals as goal

pub bind-old-requires : goal.bind-old-requires
bind-old-requires c = c.requires.runs

pub judge-requires : goal.judge-requires
judge-requires c = bound-runs c.requires (held-is c.args.z c.ranges.z.sfits) c.bind-old.ensures

pub enum_told-1 : goal.enum_told-1
enum_told-1 c = c.in-Holds.in-Holds-own.keys1

pub enum_told-in-Fails : goal.enum_told-in-Fails
enum_told-in-Fails c = c.in-Fails.in-Fails-own.keys2

pub restore-requires : goal.restore-requires
restore-requires c = c.bind-old.ensures.inside

pub enum_told-in-Unsure : goal.enum_told-in-Unsure
enum_told-in-Unsure c = c.in-Unsure.in-Unsure-own.keys3

pub restore-requires-in-Unsure : goal.restore-requires-in-Unsure
restore-requires-in-Unsure c = c.bind-old.ensures.inside

pub returns-in-Holds : goal.returns-in-Holds
returns-in-Holds c = gives-matched c.requires (held-is c.args.z c.ranges.z.sfits) c.bind-old.ensures c.judge.ensures c.in-Holds.is

pub returns-in-Fails : goal.returns-in-Fails
returns-in-Fails c = gives-failed c.requires (held-is c.args.z c.ranges.z.sfits) c.bind-old.ensures c.judge.ensures c.in-Fails.is c.restore.ensures

pub returns-in-Unsure : goal.returns-in-Unsure
returns-in-Unsure c = gives-unsure c.requires (held-is c.args.z c.ranges.z.sfits) c.bind-old.ensures c.judge.ensures c.in-Unsure.is c.restore-in-Unsure.ensures
