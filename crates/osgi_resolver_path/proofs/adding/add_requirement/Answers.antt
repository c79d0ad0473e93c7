-- By the kind of the requirement.
use Rattle.std.proofs.Common.{◌≡◌, ◌++◌, ◌∙◌, true, false, List, Option, ℕ, ap, sym, append-nil, filter, map}
use Rattle.osgi_world.specs.Decisions.{Decision, choose, is_yes, pick, value_made}
use Rattle.osgi_world.specs.Lookups.{is_effective, is_multiple}
use Rattle.osgi_world.specs.declared.wiring.CapRef.{CapRef}
use Rattle.osgi_world.specs.declared.world.World.{World}
use Rattle.osgi_resolver_path.specs.computed.Courses.{lists_of}
use Rattle.osgi_resolver_path.specs.computed.Valued.{value_in}
use Rattle.osgi_resolver_path.specs.computed.Views.{by_value, decided_in, wire_to}
use Rattle.osgi_resolver_path.proofs.Payloads.{chosen-wires, ineffective-none, picked-wires, ready-has}
use Rattle.osgi_resolver_path.proofs.Next.{right-state}
use Rattle.osgi_resolver_path.proofs.adding.add_requirement.Goals as goal

pub returns-then-not-is_effective : goal.returns-then-not-is_effective
returns-then-not-is_effective c = record {
  added = λ P course seen i j.
      let ready = seen.ready in
      let q = c.args.requirement in
      let D = decided_in course in
      let w = ap (λ (W : World). is_effective W.known q) ready.in_it.world in
      let known = ap (λ (W : World). W.known) c.offers.ensures.world in
      let e : is_effective P.world.known q ≡ false = cc in
      sym (append-nil c.args.wires.now) ∙ ap (λ l. c.args.wires.now ++ l) (sym (ineffective-none P D (right-state P _ (lists_of course) ready.at) c.args.host q e));
}

pub returns-in_ok-add_picked : goal.returns-in_ok-add_picked
returns-in_ok-add_picked c = record {
  added = λ P course seen i j.
      let ready = seen.ready in
      let q = c.args.requirement in
      let h = c.args.host in
      let D = decided_in course in
      let w = ap (λ (W : World). is_effective W.known q) ready.in_it.world in
      let u = ap (λ (W : World). is_multiple W.known q) ready.in_it.world in
      let known = ap (λ (W : World). W.known) c.offers.ensures.world in
      let known-2 = ap (λ (W : World). W.known) c.offers-2.ensures.world in
      let e : is_effective P.world.known q ≡ true = cc in
      let m : is_multiple P.world.known q ≡ true = cc in
      let all = c.candidates-candidates.ensures.candidates P ready.in_it (ready.known h q i j) (ready-has P c.args.lists.now course ready h q i j e) in
      let same : value_in c.args.values.now ≡ value_made D = λ k d. seen.values_are d k in
      c.in_ok-add_picked.ensures.added
      ∙ ap (λ (made : Decision → Option ℕ). c.args.wires.now ++ map (wire_to q) (filter (λ c. is_yes (made (pick h q c))) c.candidates-candidates.result.now)) same
      ∙ ap (λ (cs : List CapRef). c.args.wires.now ++ map (wire_to q) (filter (λ c. is_yes (value_made D (pick h q c))) cs)) all
      ∙ ap (λ l. c.args.wires.now ++ l) (sym (picked-wires P D h q m));
}

pub returns-in_ok-add_chosen : goal.returns-in_ok-add_chosen
returns-in_ok-add_chosen c = record {
  added = λ P course seen i j.
      let ready = seen.ready in
      let q = c.args.requirement in
      let h = c.args.host in
      let D = decided_in course in
      let w = ap (λ (W : World). is_effective W.known q) ready.in_it.world in
      let u = ap (λ (W : World). is_multiple W.known q) ready.in_it.world in
      let known = ap (λ (W : World). W.known) c.offers.ensures.world in
      let known-2 = ap (λ (W : World). W.known) c.offers-2.ensures.world in
      let e : is_effective P.world.known q ≡ true = cc in
      let m : is_multiple P.world.known q ≡ false = cc in
      let all = c.candidates-candidates.ensures.candidates P ready.in_it (ready.known h q i j) (ready-has P c.args.lists.now course ready h q i j e) in
      c.in_ok-add_chosen.ensures.added
      ∙ ap (λ (v : Option ℕ). c.args.wires.now ++ map (wire_to q) (by_value c.candidates-candidates.result.now v)) (seen.values_are (choose h q))
      ∙ ap (λ (cs : List CapRef). c.args.wires.now ++ map (wire_to q) (by_value cs (value_made D (choose h q)))) all
      ∙ ap (λ l. c.args.wires.now ++ l) (sym (chosen-wires P D h q m));
}
