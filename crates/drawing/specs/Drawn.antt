-- A plant that a text draws. These are definitions and assume nothing.
use Rattle.std.specs.Prelude.{ℕ, Bool, List, map}
use Rattle.drawing.specs.declared.finished.Drawing.{Drawing}
use Rattle.drawing.specs.declared.shape.Arrow.{Arrow}
use Rattle.drawing.specs.declared.shape.Event.{Event}
use Rattle.drawing.specs.Drafted.{Drafted, drafted}
use Rattle.drawing.specs.Fine.{sign_of}

-- what an event shows, 0 for nothing, and whether it is a fault
pub record Kind : Type 0 where
  pub sign : ℕ
  pub fault : Bool

-- the events by number, and the arrows
pub record Drawn : Type 0 where
  pub labels : List (List ℕ)
  pub kinds : List Kind
  pub ways : List Arrow

abbrev pub kind : Event → Kind
kind e = record { sign = sign_of e.sign; fault = e.fault }

abbrev pub finished : Drafted → Drawn
finished d = record { labels = d.labels; kinds = map kind d.kinds; ways = d.ways }

abbrev pub drawn : Drawing → Drawn
drawn d = finished (drafted d.draft)
