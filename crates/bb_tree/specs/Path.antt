-- A path as its calls see it: this project's own.
use Rattle.std.specs.Prelude.{ℕ, List}
use Rattle.bb_tree.specs.declared.path.Frame.{Frame}
use Rattle.bb_tree.specs.declared.path.Path.{Path}

-- for how many levels it has room
abbrev pub depth_of : Path → ℕ
depth_of path = path.depth

-- the frames that it holds, the first ones first
abbrev pub frames_of : Path → List Frame
frames_of path = path.frames.items
