-- Wirings that are added wire by wire, fragment by fragment, and one after another.
use Rattle.std.proofs.Common.{◌≡◌, ◌↔◌, ◌⊎◌, inl, inr, ℕ, ◌+◌, ◌<◌, List, [], ◌∷◌, ◌++◌, append_assoc, length, get_or, take, refl, sym, ◌∙◌, ap, subst}
use Rattle.std.proofs.lemmas.List.{append-nil, take_more}
use Rattle.osgi_base.specs.declared.ids.RevisionId.{RevisionId}
use Rattle.osgi_world.specs.Decisions.{Step, attached, wired}
use Rattle.osgi_world.specs.Lists.{In}
use Rattle.osgi_world.specs.declared.wiring.Wire.{Wire}
use Rattle.osgi_world.specs.declared.wiring.Wiring.{Wiring}
use Rattle.osgi_space_rows.specs.Agree.{AreRowsOf}
use Rattle.osgi_space_rows.specs.Names.{name_numbered}
use Rattle.osgi_space_rows.specs.Steps.{step_wiring}
use Rattle.osgi_space_rows.specs.Rows.{RowLists}
use Rattle.osgi_space_rows.specs.Worlds.{AddsStep, AddsWires, AddsWirings, AreNumbered, AreRowsIn, with_added, WorldLists}
use Rattle.osgi_space_rows.specs.declared.added.Added.{Added}
use Rattle.osgi_space_rows.specs.declared.added.Added.TheVariants.{Attachment as OfAttachment, Import as OfImport, Nothing, Required as OfRequired}
use Rattle.osgi_space_rows.proofs.Payload.{in-more}
use Rattle.osgi_space_rows.proofs.StepRows.{rows-alike}
use Rattle.osgi_space_rows.proofs.Stepped.{AreAlike, joined, nothing-more}

abbrev of_wires : RevisionId → List Wire → Wiring
of_wires r ws = record { revision = r; wires = ws; fragments = [] }

abbrev of_fragments : RevisionId → List RevisionId → Wiring
of_fragments h fs = record { revision = h; wires = []; fragments = fs }

-- ---- rows that grow

more-none : {X : Type 0} (xs : List X) → (more : List X) × (xs ≡ xs ++ more)
more-none xs = ([], sym (append-nil xs))

more-then : {X : Type 0} (xs ys zs : List X) → (more : List X) × (ys ≡ xs ++ more) → (more : List X) × (zs ≡ ys ++ more) → (more : List X) × (zs ≡ xs ++ more)
more-then xs ys zs (first, is) (second, then_is) = (first ++ second, then_is ∙ ap (λ l. l ++ second) is ∙ append_assoc xs first second)

grown-none : (R : RowLists) → AddsWires R R
grown-none R = record { imports = more-none R.imports; required = more-none R.required; attached = more-none R.attached; exports = refl }

grown-then : (a b d : RowLists) → AddsWires a b → AddsWires b d → AddsWires a d
grown-then a b d first second = record {
  imports = more-then a.imports b.imports d.imports first.imports second.imports;
  required = more-then a.required b.required d.required first.required second.required;
  attached = more-then a.attached b.attached d.attached first.attached second.attached;
  exports = second.exports ∙ first.exports;
}

grown-added : (R : RowLists) (added : Added) → AddsWires R (with_added R added)
grown-added R (OfImport row) = record { imports = (row ∷ [], refl); required = more-none R.required; attached = more-none R.attached; exports = refl }
grown-added R (OfRequired row) = record { imports = more-none R.imports; required = (row ∷ [], refl); attached = more-none R.attached; exports = refl }
grown-added R (OfAttachment row) = record { imports = more-none R.imports; required = more-none R.required; attached = (row ∷ [], refl); exports = refl }
grown-added R Nothing = grown-none R

-- ---- wirings of one revision

pub adds-nothing : (world : WorldLists) (r : RevisionId) → AddsWirings world world (of_wires r [] ∷ [])
adds-nothing world r = record {
  known = refl;
  names = refl;
  grown = grown-none world.rows;
  agree = λ W are. rows-alike world.known W (W ++ of_wires r [] ∷ []) (name_numbered world.names) world.rows (nothing-more W r) are;
  numbered = λ are. are;
}

-- two wirings of one revision, one after the other
joined-adds : (a b d : WorldLists) (g h k : Wiring) → AddsWirings a b (g ∷ []) → AddsWirings b d (h ∷ []) → ((W : List Wiring) → AreAlike ((W ++ g ∷ []) ++ h ∷ []) (W ++ k ∷ [])) → AddsWirings a d (k ∷ [])
joined-adds a b d g h k first second alike = record {
  known = second.known ∙ first.known;
  names = second.names ∙ first.names;
  grown = grown-then a.rows b.rows d.rows first.grown second.grown;
  agree = λ W are. rows-alike d.known ((W ++ g ∷ []) ++ h ∷ []) (W ++ k ∷ []) (name_numbered d.names) d.rows (alike W) (second.agree (W ++ g ∷ []) (first.agree W are));
  numbered = λ are. second.numbered (first.numbered are);
}

empty-left : {X : Type 0} (x : X) (xs : List X) → In x xs ↔ (In x [] ⊎ In x xs)
empty-left x xs = (λ at. inr at, λ either. elim either [ inl none ↦ absurd none | inr at ↦ at ])

empty-right : {X : Type 0} (x : X) (xs : List X) → In x xs ↔ (In x xs ⊎ In x [])
empty-right x xs = (λ at. inl at, λ either. elim either [ inl at ↦ at | inr none ↦ absurd none ])

empty-both : {X : Type 0} (x : X) → In x [] ↔ (In x [] ⊎ In x [])
empty-both x = empty-left x []

step-adds : (a b : WorldLists) (s : Step) (added : Added) → AddsStep a b s added → AddsWirings a b (step_wiring s ∷ [])
step-adds a b s added step = record {
  known = step.known;
  names = step.names;
  grown = subst (AddsWires a.rows) (sym step.rows) (grown-added a.rows added);
  agree = step.agree;
  numbered = λ are. step.numbered;
}

-- one wire more
pub wires-more : (a b d : WorldLists) (r : RevisionId) (w : Wire) (ws : List Wire) (i : ℕ) (added : Added) → i < length ws → w ≡ get_or ws i w → AddsWirings a b (of_wires r (take i ws) ∷ []) → AddsStep b d (wired r w) added →
    AddsWirings a d (of_wires r (take (i + 1) ws) ∷ [])
wires-more a b d r w ws i added within at so_far step =
    joined-adds a b d (of_wires r (take i ws)) (step_wiring (wired r w)) (of_wires r (take (i + 1) ws)) so_far (step-adds b d (wired r w) added step)
    (λ W. joined W (of_wires r (take i ws)) (step_wiring (wired r w)) (of_wires r (take (i + 1) ws)) refl refl (λ v. in-more w v ws i within at) (λ f. empty-both f))

-- one fragment more
pub fragments-more : (a b d : WorldLists) (h f : RevisionId) (fs : List RevisionId) (i : ℕ) (added : Added) → i < length fs → f ≡ get_or fs i f → AddsWirings a b (of_fragments h (take i fs) ∷ []) → AddsStep b d (attached h f) added →
    AddsWirings a d (of_fragments h (take (i + 1) fs) ∷ [])
fragments-more a b d h f fs i added within at so_far step =
    joined-adds a b d (of_fragments h (take i fs)) (step_wiring (attached h f)) (of_fragments h (take (i + 1) fs)) so_far (step-adds b d (attached h f) added step)
    (λ W. joined W (of_fragments h (take i fs)) (step_wiring (attached h f)) (of_fragments h (take (i + 1) fs)) refl refl (λ v. empty-both v) (λ g. in-more f g fs i within at))

-- the wires and the fragments of a wiring
pub wiring-adds : (a b d : WorldLists) (g : Wiring) → AddsWirings a b (of_wires g.revision g.wires ∷ []) → AddsWirings b d (of_fragments g.revision g.fragments ∷ []) → AddsWirings a d (g ∷ [])
wiring-adds a b d g first second =
    joined-adds a b d (of_wires g.revision g.wires) (of_fragments g.revision g.fragments) g first second
    (λ W. joined W (of_wires g.revision g.wires) (of_fragments g.revision g.fragments) g refl refl (λ w. empty-right w g.wires) (λ f. empty-left f g.fragments))

-- a step, by the rows after it
pub step-made : (old new : WorldLists) (s : Step) (added : Added) → new ≡ record old { rows = with_added old.rows added } → AreNumbered new.names new.rows →
    ((W : List Wiring) → AreRowsIn old W → AreRowsOf old.known (W ++ step_wiring s ∷ []) (name_numbered old.names) (with_added old.rows added)) → AddsStep old new s added
step-made old new s added is numbered agree = record {
  known = ap (λ (w : WorldLists). w.known) is;
  names = ap (λ (w : WorldLists). w.names) is;
  rows = ap (λ (w : WorldLists). w.rows) is;
  numbered = numbered;
  agree = λ W are. subst (λ (w : WorldLists). AreRowsOf w.known (W ++ step_wiring s ∷ []) (name_numbered w.names) w.rows) (sym is) (agree W are);
}

-- ---- one wiring after another

pub adds-no_wirings : (world : WorldLists) → AddsWirings world world []
adds-no_wirings world = record {
  known = refl;
  names = refl;
  grown = grown-none world.rows;
  agree = λ W are. subst (AreRowsIn world) (sym (append-nil W)) are;
  numbered = λ are. are;
}

pub wirings-more : (a b d : WorldLists) (g : Wiring) (V : List Wiring) (i : ℕ) → i < length V → g ≡ get_or V i g → AddsWirings a b (take i V) → AddsWirings b d (g ∷ []) → AddsWirings a d (take (i + 1) V)
wirings-more a b d g V i within at first second =
    let more : take (i + 1) V ≡ take i V ++ g ∷ [] = take_more V i g within ∙ ap (λ z. take i V ++ z ∷ []) (sym at) in
    record {
      known = second.known ∙ first.known;
      names = second.names ∙ first.names;
      grown = grown-then a.rows b.rows d.rows first.grown second.grown;
      agree = λ W are. subst (AreRowsIn d) (append_assoc W (take i V) (g ∷ []) ∙ ap (λ z. W ++ z) (sym more)) (second.agree (W ++ take i V) (first.agree W are));
      numbered = λ are. second.numbered (first.numbered are);
    }
