-- What `figure_at` computes with: to unfold this is to unfold all that its line names.
use Rattle.panel.specs.Figure.{cell_figure, linearity_figure, system_figure, filter_figure, temperature_figure, figure_at}

unfoldable pub figures : Unit {0}
unfolding cell_figure linearity_figure system_figure filter_figure temperature_figure figure_at
figures = tt
