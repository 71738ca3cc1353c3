-- A tape made of its cells and its window: this project's own.
use Rattle.bb_tape.specs.declared.window.Window.{Window}
use Rattle.bb_tape.specs.Content.{Content}
use Rattle.bb_tape.specs.TapeView.{TapeView}

abbrev pub view_of : Content → Window → TapeView
view_of content window =
    record { content = content; low = window.low; high = window.high; limit = window.limit }
