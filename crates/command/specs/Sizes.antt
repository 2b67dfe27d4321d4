-- How large a plant is, and its picture. These are definitions and assume nothing.
use Rattle.std.specs.Prelude.{◌≡◌, ℕ, List, ◌++◌, map, length, string_bytes, codes, decimal, String}
use Rattle.std.specs.declared.alloc.Global.{Global}
use Rattle.drawing.specs.Drawn.{Drawn}
use Rattle.drawing.specs.Numbers.{states_of}
use Rattle.picture.specs.declared.edges.Edge.{Edge}
use Rattle.picture.specs.Pictures.{arrow_of, picture}
use Rattle.sorts.specs.declared.kinds.Faults.TheVariants.{Any}
use Rattle.command.specs.Texts.{Judged, plant_of}

abbrev pub size : Drawn → List ℕ
size d = decimal (states_of d) ++ (codes " states, " ++ (decimal (length d.kinds) ++ (codes " events, " ++ (decimal (length d.ways) ++ codes " arrows"))))

abbrev pub SizeOf : Drawn → String Global → Type 0
SizeOf d s = string_bytes s ≡ size d

-- every arrow in its order, under the sentence of a verdict that holds
pub record Pictured (d : Drawn) (bytes : List ℕ) : Type 0 where
  pub title : List ℕ
  pub edges : List Edge
  pub judged : Judged d.labels (plant_of Any d) title
  pub arrows : map arrow_of edges ≡ d.ways
  pub text : bytes ≡ picture d.labels d.kinds edges title

abbrev pub PictureOf : Drawn → String Global → Type 0
PictureOf d s = Pictured d (string_bytes s)
