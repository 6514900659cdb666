-- `emit::put_number` meets its contract.
use Rattle.std.proofs.Common.{◌+◌, length, set, take, arith, ap, sym, refl, ◌∙◌, length-set}
use Rattle.tables.specs.Tables.{put_at}
use Rattle.emit.proofs.ByteLaws.{zero_room, small_room, large_room, few_digits, wrote_zero, wrote_small, wrote_large, low_length, low_of_four}
use Rattle.emit.proofs.put_number.Goals as goal

pub bounds-out-at : goal.bounds-out-at
bounds-out-at c = omega (arith, zero_room c.args.n c.args.out.now c.args.at c.if-n-eq0.true (length c.args.out.now) c.requires)

pub returns-then-n-eq0 : goal.returns-then-n-eq0
returns-then-n-eq0 c = wrote_zero c.args.n c.args.out.now c.args.at c.if-n-eq0.true

pub bounds-out-at-then-n-le16 : goal.bounds-out-at-then-n-le16
bounds-out-at-then-n-le16 c = omega (arith, small_room c.args.n c.args.out.now c.args.at c.if-n-eq0.false c.if-n-le16.true (length c.args.out.now) c.requires)

pub returns-then-n-le16 : goal.returns-then-n-le16
returns-then-n-le16 c = wrote_small c.args.n c.args.out.now c.args.at c.if-n-eq0.false c.if-n-le16.true _ refl

pub overflow_cast-out-2 : goal.overflow_cast-out-2
overflow_cast-out-2 c = omega (arith, few_digits c.args.n, c.digit_count-size.ensures)

pub bounds-out-at-2 : goal.bounds-out-at-2
bounds-out-at-2 c = omega (arith, large_room c.args.n c.args.out.now c.args.at (omega arith) c.if-n-le16.false c.digit_count-size.result c.digit_count-size.ensures (length c.args.out.now) c.requires)

pub slice_bounds-put_bytes-end : goal.slice_bounds-put_bytes-end
slice_bounds-put_bytes-end c = omega (arith, few_digits c.args.n, c.digit_count-size.ensures, ap length c.to_le_bytes.ensures)

pub slice_bounds-put_bytes-end-2 : goal.slice_bounds-put_bytes-end-2
slice_bounds-put_bytes-end-2 c = let e = ap (take c.digit_count-size.result) c.to_le_bytes.ensures ∙ low_of_four c.digit_count-size.result c.args.n (omega (arith, few_digits c.args.n, c.digit_count-size.ensures)) in sym (ap length e ∙ low_length c.digit_count-size.result c.args.n)

pub put_bytes-requires : goal.put_bytes-requires
put_bytes-requires c =
    let e = ap (take c.digit_count-size.result) c.to_le_bytes.ensures ∙ low_of_four c.digit_count-size.result c.args.n (omega (arith, few_digits c.args.n, c.digit_count-size.ensures)) in
    omega (
      arith,
      ap length e,
      low_length c.digit_count-size.result c.args.n,
      length-set c.args.out.now c.args.at c.digit_count-size.result,
      large_room c.args.n c.args.out.now c.args.at (omega arith) c.if-n-le16.false c.digit_count-size.result c.digit_count-size.ensures (length c.args.out.now) c.requires,
    )

pub overflow_add-result-3 : goal.overflow_add-result-3
overflow_add-result-3 c = omega (arith, few_digits c.args.n, c.digit_count-size.ensures, large_room c.args.n c.args.out.now c.args.at (omega arith) c.if-n-le16.false c.digit_count-size.result c.digit_count-size.ensures (length c.args.out.now) c.requires)

pub returns : goal.returns
returns c =
    wrote_large c.args.n c.args.out.now c.args.at (omega arith) c.if-n-le16.false c.digit_count-size.result c.digit_count-size.result c.digit_count-size.ensures refl c.put_bytes.new.out
    (c.put_bytes.ensures ∙ ap (put_at (set c.args.out.now c.args.at c.digit_count-size.result) (c.args.at + 1)) (ap (take c.digit_count-size.result) c.to_le_bytes.ensures ∙ low_of_four c.digit_count-size.result c.args.n (omega (arith, few_digits c.args.n, c.digit_count-size.ensures))))
