-- `expressions::expression` meets its contract: token by token, by TakenLaws of `row` and FragmentLaws.
use Rattle.expressions.proofs.FragmentLaws.{number_is, key_alone, fragment_is}
use Rattle.expressions.proofs.expression.Goals as goal
use Rattle.row.proofs.TakenLaws.{dry, arm, onward}
use mathlib.Core.Path.{refl}

pub returns-in_err-token : goal.returns-in_err-token
returns-in_err-token c = dry c.args.segwit _ c.args.script.now c.args.tokens.table.now c.args.tokens.left c.from_residual.result c.in_err-token.ensures c.from_residual.ensures.1

pub returns-in-31 : goal.returns-in-31
returns-in-31 c = arm c.args.segwit _ c.args.script.now c.args.tokens.table.now c.args.tokens.left c.in_ok-token.ensures 31 c.in-31.is (key_alone c.args.segwit c.args.script.now c.args.tokens.table.now c.in_ok-token.token.code c.in_ok-token.token.place c.in_ok-token.token.rest.left 31 c.in-31.is c.pk_k.ensures)

pub returns-in-32 : goal.returns-in-32
returns-in-32 c = arm c.args.segwit _ c.args.script.now c.args.tokens.table.now c.args.tokens.left c.in_ok-token.ensures 32 c.in-32.is (key_alone c.args.segwit c.args.script.now c.args.tokens.table.now c.in_ok-token.token.code c.in_ok-token.token.place c.in_ok-token.token.rest.left 32 c.in-32.is c.pk_k-in-32.ensures)

pub returns-in-30 : goal.returns-in-30
returns-in-30 c = arm c.args.segwit _ c.args.script.now c.args.tokens.table.now c.args.tokens.left c.in_ok-token.ensures 30 c.in-30.is (key_alone c.args.segwit c.args.script.now c.args.tokens.table.now c.in_ok-token.token.code c.in_ok-token.token.place c.in_ok-token.token.rest.left 30 c.in-30.is c.pk_k-in-30.ensures)

pub returns-in-23 : goal.returns-in-23
returns-in-23 c = onward c.args.segwit _ c.args.script.now c.args.tokens.table.now c.args.tokens.left c.in_ok-token.ensures 23 _ c.after_verify.result c.in-23.is refl (c.after_verify.ensures c.args.segwit c.args.script.now)

pub returns-in-9 : goal.returns-in-9
returns-in-9 c = onward c.args.segwit _ c.args.script.now c.args.tokens.table.now c.args.tokens.left c.in_ok-token.ensures 9 _ c.after_check_sequence_verify.result c.in-9.is refl (c.after_check_sequence_verify.ensures c.args.segwit c.args.script.now)

pub returns-in-10 : goal.returns-in-10
returns-in-10 c = onward c.args.segwit _ c.args.script.now c.args.tokens.table.now c.args.tokens.left c.in_ok-token.ensures 10 _ c.after_check_lock_time_verify.result c.in-10.is refl (c.after_check_lock_time_verify.ensures c.args.segwit c.args.script.now)

pub returns-in-4 : goal.returns-in-4
returns-in-4 c = onward c.args.segwit _ c.args.script.now c.args.tokens.table.now c.args.tokens.left c.in_ok-token.ensures 4 _ c.after_equal.result c.in-4.is refl (c.after_equal.ensures c.args.segwit c.args.script.now)

pub returns-in-28 : goal.returns-in-28
returns-in-28 c = arm c.args.segwit _ c.args.script.now c.args.tokens.table.now c.args.tokens.left c.in_ok-token.ensures 28 c.in-28.is (number_is c.args.segwit c.args.script.now c.args.tokens.table.now c.in_ok-token.token.rest.left c.in_ok-token.token.number c.number_alone.ensures)

pub returns-in-8 : goal.returns-in-8
returns-in-8 c = onward c.args.segwit _ c.args.script.now c.args.tokens.table.now c.args.tokens.left c.in_ok-token.ensures 8 _ c.after_check_multi_sig.result c.in-8.is refl c.after_check_multi_sig.ensures

pub returns-in-5 : goal.returns-in-5
returns-in-5 c = onward c.args.segwit _ c.args.script.now c.args.tokens.table.now c.args.tokens.left c.in_ok-token.ensures 5 _ c.after_num_equal.result c.in-5.is refl (c.after_num_equal.ensures c.args.script.now)

pub returns-in_default : goal.returns-in_default
returns-in_default c = fragment_is c.args.segwit c.args.script.now c.args.tokens.table.now c.args.tokens.left c.in_ok-token.ensures c.in_default.in_default-own.rest c.fragment.ensures
