-- What holds of every plant: statements, each the promise of a function of its name. They assume nothing.
use Rattle.std.specs.Prelude.{◌≡◌, ℕ, ◌+◌, ◌*◌, ◌<◌, ◌≤◌, false, ◌⊎◌, List, ◌∷◌, length}
use Rattle.graph.specs.Member.{Among}
use Rattle.plant.specs.declared.parts.Arrow.{Arrow}
use Rattle.plant.specs.Plant.{Plant, Known, bad, May, Knows, ComesOutIn, ComesOut, Hides}

-- after any signs just one of four things is known
abbrev pub KnownOne : Type 0
KnownOne = (p : Plant) (os : List ℕ) → (k : Known) × Knows p os k × ((l : Known) → Knows p os l → k ≡ l)

-- after signs that are known to be bad no run without a fault shows them and one more
abbrev pub BadStays : Type 0
BadStays = (p : Plant) (os : List ℕ) (o : ℕ) → Knows p os bad → May p (o ∷ os) false → ⊥

-- the same plant under another view: its events show what f says
abbrev pub with_shows : Plant → (ℕ → ℕ) → Plant
with_shows p f = record { arrows = p.arrows; shows = f; fault = p.fault }

-- what g shows of an event can be read off what f shows of it
abbrev pub Finer : (f g h : ℕ → ℕ) → Type 0
Finer f g h = (e : ℕ) → h (f e) ≡ g e

-- what comes out in n events under a coarser view does so under a finer one
abbrev pub MoreSeen : Type 0
MoreSeen =
    (p : Plant) (f h : ℕ → ℕ) (n : ℕ) → h 0 ≡ 0 → Finer f p.shows h → ComesOutIn p n → ComesOutIn (with_shows p f) n

-- some pair of runs hides a fault
abbrev pub Hidden : Plant → Type 0
Hidden p = (es : List ℕ) × (fs : List ℕ) × (round : List ℕ) × (other : List ℕ) × (s : ℕ) × (t : ℕ) × Hides p es fs round other s t

-- every fault comes out, or a pair of runs hides one
abbrev pub OutOrHidden : Type 0
OutOrHidden = (p : Plant) → ComesOut p ⊎ Hidden p

-- never both
abbrev pub NotBoth : Type 0
NotBoth = (p : Plant) (es fs round other : List ℕ) (s t : ℕ) → ComesOut p → Hides p es fs round other s t → ⊥

-- the arrows lie between n states
abbrev pub Within : ℕ → Plant → Type 0
Within n p = (a : Arrow) → Among a p.arrows → (a.from < n) × (a.to < n)

-- if faults come out at all, they do in as many events as there are pairs of states
abbrev pub InPairs : Type 0
InPairs = (p : Plant) (n : ℕ) → Within n p → 1 ≤ n → ComesOut p → ComesOutIn p (n * n)

-- and there is a least number of events in which they do
abbrev pub LeastOut : Type 0
LeastOut = (p : Plant) → ComesOut p → (k : ℕ) × ComesOutIn p k × ((m : ℕ) → m < k → ComesOutIn p m → ⊥)

-- if a fault hides, it does so in four rows of at most eight events for each pair of states altogether
abbrev pub HiddenFits : Type 0
HiddenFits =
    (p : Plant) (n : ℕ) → Within n p → 1 ≤ n → Hidden p →
    (h : Hidden p) × (length h.0 + (length h.1 + (length h.2 + length h.3)) ≤ 8 * (n * n))
