-- `rows::row_of` meets its contract: entry by entry, EntryLaws.
use Rattle.row.specs.declared.NonTerm.TheVariants as non-term
use Rattle.rows.proofs.EntryLaws.{by_point, by_entry, by_thresh}
use Rattle.rows.proofs.row_of.Goals as goal
use Rattle.standard.specs.Rows as point
use mathlib.Core.Path.{refl}

pub returns-in-Expression : goal.returns-in-Expression
returns-in-Expression c = by_point c.args.segwit c.args.script.now c.args.tokens.now c.args.left c.args.entry non-term.Expression point.inExpression c.in-Expression.is (λ tokens. refl) c.expression.ensures

pub returns-in-WExpression : goal.returns-in-WExpression
returns-in-WExpression c = by_point c.args.segwit c.args.script.now c.args.tokens.now c.args.left c.args.entry non-term.WExpression point.inWExpression c.in-WExpression.is (λ tokens. refl) (c.w_expression.ensures c.args.segwit c.args.script.now)

pub returns-in-Swap : goal.returns-in-Swap
returns-in-Swap c = by_point c.args.segwit c.args.script.now c.args.tokens.now c.args.left c.args.entry non-term.Swap point.inSwap c.in-Swap.is (λ tokens. refl) (c.prefix.ensures.swap refl refl c.args.segwit c.args.script.now)

pub returns-in-MaybeAndV : goal.returns-in-MaybeAndV
returns-in-MaybeAndV c = by_entry c.args.segwit c.args.script.now c.args.tokens.now c.args.left c.args.entry non-term.MaybeAndV c.in-MaybeAndV.is (c.maybe_and_v.ensures c.args.segwit c.args.script.now)

pub returns-in-Alt : goal.returns-in-Alt
returns-in-Alt c = by_point c.args.segwit c.args.script.now c.args.tokens.now c.args.left c.args.entry non-term.Alt point.inAlt c.in-Alt.is (λ tokens. refl) (c.prefix-in-Alt.ensures.alt refl refl c.args.segwit c.args.script.now)

pub returns-in-AndV : goal.returns-in-AndV
returns-in-AndV c = by_entry c.args.segwit c.args.script.now c.args.tokens.now c.args.left c.args.entry non-term.AndV c.in-AndV.is (c.and_v.ensures c.args.segwit c.args.script.now)

pub returns-in-ThreshW : goal.returns-in-ThreshW
returns-in-ThreshW c = by_entry c.args.segwit c.args.script.now c.args.tokens.now c.args.left c.args.entry (non-term.ThreshW _ _) c.in-ThreshW.is (c.thresh_w.ensures c.args.segwit c.args.script.now)

pub returns-in-ThreshE : goal.returns-in-ThreshE
returns-in-ThreshE c = by_thresh c.args.segwit c.args.script.now c.args.tokens.now c.args.left c.args.entry _ _ c.in-ThreshE.is c.thresh_e.ensures

pub returns-in-EndIf : goal.returns-in-EndIf
returns-in-EndIf c = by_point c.args.segwit c.args.script.now c.args.tokens.now c.args.left c.args.entry non-term.EndIf point.inEndIf c.in-EndIf.is (λ tokens. refl) (c.end_if.ensures c.args.segwit c.args.script.now)

pub returns-in-EndIfNotIf : goal.returns-in-EndIfNotIf
returns-in-EndIfNotIf c = by_point c.args.segwit c.args.script.now c.args.tokens.now c.args.left c.args.entry non-term.EndIfNotIf point.inEndIfNotIf c.in-EndIfNotIf.is (λ tokens. refl) (c.end_if_not_if.ensures c.args.segwit c.args.script.now)

pub returns-in-EndIfElse : goal.returns-in-EndIfElse
returns-in-EndIfElse c = by_point c.args.segwit c.args.script.now c.args.tokens.now c.args.left c.args.entry non-term.EndIfElse point.inEndIfElse c.in-EndIfElse.is (λ tokens. refl) (c.end_if_else.ensures c.args.segwit c.args.script.now)
