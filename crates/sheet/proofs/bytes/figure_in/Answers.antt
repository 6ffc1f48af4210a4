-- The eight bytes from the place on. Assumes nothing.
use Rattle.std.proofs.Common.{◌≡◌, ◌+◌, ◌-◌, ◌≤◌, length, take, drop, ap, ◌∙◌, arith, rules, w64, to_z, of_z}
use Rattle.sheet.proofs.EitherForm.{rest}
use Rattle.sheet.proofs.LowFirst.{figure_read}
use Rattle.sheet.proofs.bytes.figure_in.Goals as goal

pub returns : goal.returns
returns c =
    let s = c.args.sheet.now in
    let l = c.in_ok-get.field-0.now in
    let found = c.in_ok-get.ensures.lookup.0 in
    let eight = c.in_ok-bytes.ensures.cases in
    let is : l ≡ take (length s - c.args.at) (drop c.args.at s) = cc in
    let same : l ≡ drop c.args.at s = is ∙ rest s c.args.at in
    let there : c.args.at + 8 ≤ length s = omega (arith, eight.enough) in
    let bits : to_z w64 (of_z w64 c.from_le_bytes.result) ≡ c.from_le_bytes.result = search rules in
    (there, bits ∙ c.from_le_bytes.ensures ∙ figure_read s c.args.at _ (λ i. (c.type_inv.sheet i).fits) there (eight.same ∙ ap (take 8) same))
