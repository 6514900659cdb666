-- `run::step` meets its contract.
use Rattle.run.proofs.StepLaws.{stepped, row_refused}
use Rattle.row.specs.Request.{request_of}
use Rattle.std.proofs.lemmas.Result.{err_from_is_err_and}
use Rattle.run.proofs.step.Goals as goal

pub returns-in_err-found : goal.returns-in_err-found
returns-in_err-found c =
    let p = err_from_is_err_and c.from_residual.result c.from_residual.ensures.1 in
    rw p.1 (row_refused c.args.segwit c.args.script.now c.args.tokens.now c.args.nodes.now c.args.keys.now c.args.work.now c.args.s c.requires c.take-entry.result c.take-entry.ensures c.in_err-found.field-0.0 c.in_err-found.ensures p.2)

pub returns : goal.returns
returns c = stepped c.args.segwit c.args.script.now c.args.tokens.now c.args.nodes.now c.args.keys.now c.args.work.now c.args.s c.requires c.take-entry.result c.take-entry.ensures (request_of c.args.tokens.now c.in_ok-found.found.row) c.in_ok-found.found.left c.in_ok-found.ensures c.perform.ensures
