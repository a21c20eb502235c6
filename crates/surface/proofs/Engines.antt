-- All engines give one column.
use Prim.Native.Nat.{ℕ}
use mathlib.Core.Path.{◌≡◌, refl, sym, ◌∙◌}
use mathlib.Core.List.{List}
use Rattle.linear.specs.Promise as linear
use Rattle.decompose.specs.Promise as decompose
use Rattle.std.proofs.Common.{Ok}
use Rattle.waiting.specs.declared.Part.{Part}
use Rattle.pivot.specs.declared.chooser.Chooser.{Chooser}
use Rattle.graph.specs.Graph.{Graph}
use Rattle.graph.specs.Search.{labels}
use Rattle.surface.specs.Engines.{Labelled, decomposed, searched}

-- whichever the engine, its column is the labels
pub labelled_right : {g : Graph} {l : List ℕ} → Labelled g l → l ≡ labels g
labelled_right (decomposed p) = p.gives.label
labelled_right (searched p) = (p.finished refl).label

-- any two engines give equal columns
pub engines_one : {g : Graph} {a b : List ℕ} → Labelled g a → Labelled g b → a ≡ b
engines_one x y = labelled_right x ∙ sym (labelled_right y)

-- so do a call of the linear engine and one of the decomposer on one table and mask, whatever else they are given
pub engines_agree : (n : ℕ) (sources targets kinds : List ℕ) (mask : ℕ) (label numbers words : List ℕ)
    (method order : ℕ) (chooser : Chooser) (list : List ℕ) (waiting : List Part) (label' numbers' words' : List ℕ)
    {l w ws : List ℕ} {a : decompose.After} {d : ℕ}
    → linear.Promise (record { n = n; sources = sources; targets = targets; kinds = kinds; mask = mask; label = label; numbers = numbers; words = words }) l w ws 0
    → decompose.Promise (decompose.call n sources targets kinds mask method order chooser list waiting label' numbers' words') a (Ok d)
    → l ≡ a.label
engines_agree n sources targets kinds mask label numbers words method order chooser list waiting label' numbers' words' p q =
    engines_one (searched p) (decomposed q)
