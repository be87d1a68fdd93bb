use Rattle.std.proofs.Common.{◌+◌, ◌^◌, ◌<◌, ◌≤◌, arith, lit<}
use Rattle.std.proofs.Math.Nat.{pow-le-pow_right}
use Rattle.slice_fields.proofs.slice.kind_of.Goals as goal

pub returns-clause-low : goal.returns-clause-low
returns-clause-low c =
    let two : 0 < 2 = lit< tt in
    let log2 : 4 ≤ c.args.sps.now.order.log2_max_pic_order_cnt_lsb_minus4 + 4 = omega arith in
    let least : 2 ^ 4 ≤ 2 ^ (c.args.sps.now.order.log2_max_pic_order_cnt_lsb_minus4 + 4) = pow-le-pow_right two log2 in
    omega arith

pub returns-clause-high : goal.returns-clause-high
returns-clause-high c =
    let two : 0 < 2 = lit< tt in
    let log2 : c.args.sps.now.order.log2_max_pic_order_cnt_lsb_minus4 + 4 ≤ 16 = omega arith in
    let most : 2 ^ (c.args.sps.now.order.log2_max_pic_order_cnt_lsb_minus4 + 4) ≤ 2 ^ 16 = pow-le-pow_right two log2 in
    omega arith
