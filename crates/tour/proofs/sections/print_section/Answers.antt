-- As many points as the count says.
use Rattle.std.proofs.Common.{◌∙◌}
use Rattle.tour.proofs.Got.{count-read}
use Rattle.tour.proofs.sections.print_section.Goals as goal

pub returns : goal.returns
returns g c =
    let counted = c.count-counted in
    let count = c.unwrap_or-count.ensures ∙ count-read c.args.cursor.now counted.result counted.ensures.number counted.ensures.value in
    rw (c.print_points.ensures, counted.ensures.next, count)
