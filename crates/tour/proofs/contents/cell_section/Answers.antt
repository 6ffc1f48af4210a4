-- Each value as its step gave it, and the steps together (Got.antt).
use Rattle.std.proofs.Common.{rules, ◌≡◌, ◌∙◌, ap, w64, to_z, of_z}
use Rattle.refusal.specs.Refusal.{number_of}
use Rattle.tour.proofs.Got.{count-read, figure-read, same_number, cell-found}
use Rattle.tour.proofs.contents.cell_section.Goals as goal

pub returns : goal.returns
returns c =
    let start = c.start-cursor in
    let counted = c.count-count in
    let cofs = c.figure-cofs in
    let cgai = c.figure-cgai in
    let cmin = c.figure-cmin in
    let cmax = c.figure-cmax in
    let b : to_z w64 (of_z w64 c.unwrap_or-2.result) ≡ c.unwrap_or-2.result = search rules in
    let d : to_z w64 (of_z w64 c.unwrap_or-3.result) ≡ c.unwrap_or-3.result = search rules in
    let e : to_z w64 (of_z w64 c.unwrap_or-4.result) ≡ c.unwrap_or-4.result = search rules in
    let f : to_z w64 (of_z w64 c.unwrap_or-5.result) ≡ c.unwrap_or-5.result = search rules in
    let number = ap (λ r. number_of r) c.and.ensures ∙ same_number cmax.result ∙ cmax.ensures.number in
    let count = c.unwrap_or.ensures ∙ count-read start.result counted.result counted.ensures.number counted.ensures.value in
    let v2 = c.unwrap_or-2.ensures ∙ figure-read counted.new.self cofs.result cofs.ensures.number cofs.ensures.value in
    let v3 = c.unwrap_or-3.ensures ∙ figure-read cofs.new.self cgai.result cgai.ensures.number cgai.ensures.value in
    let v4 = c.unwrap_or-4.ensures ∙ figure-read cgai.new.self cmin.result cmin.ensures.number cmin.ensures.value in
    let v5 = c.unwrap_or-5.ensures ∙ figure-read cmin.new.self cmax.result cmax.ensures.number cmax.ensures.value in
    rw (b, d, e, f, number, count, v2, v3, v4, v5, cmin.ensures.next, cgai.ensures.next, cofs.ensures.next, counted.ensures.next, start.ensures) (cell-found c.args.sheet)
