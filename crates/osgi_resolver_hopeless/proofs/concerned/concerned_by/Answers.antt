-- All that lead to the host; or, where no bundle wire goes to it, the host and those that clash with what comes through it.
use Rattle.std.proofs.Common.{◌≡◌, ◌==◌, ◌∙◌, ◌↔◌, ℕ, inl, inr, List, [], ap, subst, sym, Contains, refl}
use Rattle.std.proofs.lemmas.Bool.{eq-eqb}
use Rattle.osgi_base.specs.declared.ids.RevisionId.{RevisionId}
use Rattle.osgi_resolver_hopeless.proofs.Answering.{known-is}
use Rattle.osgi_resolver_hopeless.proofs.Backwards.{back-member, leads-back}
use Rattle.osgi_resolver_hopeless.proofs.Passing.{through-clash}
use Rattle.osgi_resolver_hopeless.proofs.Settling.{settled-away}
use Rattle.osgi_resolver_hopeless.specs.computed.Leading.{LeadsBack}
use Rattle.osgi_resolver_path.specs.Standing.{IsProblemOf, Standing, made}
use Rattle.osgi_resolver_path.specs.Wires.{IsWiredTo}
use Rattle.osgi_space.proofs.Ids.{contains-in, in-contains}
use Rattle.osgi_space_rows.specs.Agree.{AreRowsOf, id}
use Rattle.osgi_space_rows.specs.Names.{name_numbered}
use Rattle.osgi_space_rows.specs.Rows.{RowLists, imports_of}
use Rattle.osgi_space_rows.specs.Worlds.{WorldLists}
use Rattle.osgi_space_rows.specs.declared.rows.Import.{Import}
use Rattle.osgi_space_rules.proofs.OneValue.{not_true}
use Rattle.osgi_space_sources.specs.computed.Clashes.{IsClash}
use Rattle.osgi_space_sources.specs.computed.Disputes.{AreDisputed}
use Rattle.osgi_space_sources.specs.laws.Adding.{any-of}
use Rattle.osgi_space_sources.specs.computed.Pairs.{IsFollowing}
use Rattle.osgi_space_sources.specs.computed.Reach.{starts, steps}
use Rattle.osgi_space_sources.specs.laws.Members.{contains-filter}
use Rattle.osgi_world.specs.DueDecisions.{members}
use Rattle.osgi_world.specs.Lists.{In}
use Rattle.osgi_world.specs.Partial.{partial}
use Rattle.osgi_world.specs.Wirings.{BundleWire}
use Rattle.osgi_world.specs.declared.problem.Problem.{Problem}
use Rattle.osgi_resolver_hopeless.proofs.concerned.concerned_by.Goals as goal

-- those that are found lead to the host, so they are members
led : (s : Standing) (P : Problem) → IsProblemOf s P → (host : RevisionId) → In host (members P (made P s)) → (items : List ℕ) → ((n : ℕ) → Contains items n ↔ LeadsBack P (made P s) host n) →
    (n : ℕ) → In n items → In (id n) (members P (made P s))
led s P L host there items leading n i = back-member P L.is (made P s) host there ((leading n).0 (in-contains items n i))

pub returns-then-is_required : goal.returns-then-is_required
returns-then-is_required c =
    let items = c.in_ok-leading.leading in
    let same = c.into_items.ensures.items in
    record {
      members = λ P L there n i. led c.args.path.now P L c.args.host there items (c.in_ok-leading.ensures.leading P L) n (subst (In n) same i);
      all = λ P L there h.
          subst (In h.clash.member.0) (sym same) (contains-in items h.clash.member.0 ((c.in_ok-leading.ensures.leading P L h.clash.member.0).1 (leads-back P L.is (made P c.args.path.now) c.args.host there h.leads)));
    }

pub clashing-requires : goal.clashing-requires
clashing-requires c = record {
  disputed = subst (λ (R : RowLists). AreDisputed R c.disputed.result.now) (sym (c.rows-wires.ensures.rows ∙ ap (λ (lists : WorldLists). lists.rows) c.world_rows.ensures.rows)) c.disputed.ensures.disputed;
}

-- a wire of a revision for a package is among its wires
own-import : (R : RowLists) (row : Import) → Contains R.imports row → In row (imports_of R row.revision)
own-import R row at = contains-in (imports_of R row.revision) row (contains-filter (λ (i : Import). i.revision == row.revision) R.imports row at (eq-eqb row.revision row.revision refl))

pub returns : goal.returns
returns c =
    let items = c.in_ok-leading.leading in
    record {
      members = λ P L there n i.
          led c.args.path.now P L c.args.host there items (c.in_ok-leading.ensures.leading P L) n (subst (In n) c.items-3.ensures.items (c.in_ok-clashing.ensures.those n i));
      all = λ P L there h.
          let D = made P c.args.path.now in
          let host = c.args.host in
          let member = h.clash.member in
          let lists = c.disputed_rows-rows.result.now in
          let N = name_numbered lists.names in
          let R = c.rows-wires.result.now in
          let A : ℕ → Type 0 = λ n. ¬ Contains c.args.unsettled.now n in
          let same : R ≡ lists.rows = c.rows-wires.ensures.rows ∙ ap (λ (w : WorldLists). w.rows) c.world_rows.ensures.rows in
          let is : AreRowsOf P.world.known (partial P D) N R =
          subst (AreRowsOf P.world.known (partial P D) N) (sym same)
          (subst (λ K. AreRowsOf K (partial P D) N lists.rows) (known-is c.args.path.now P L lists.known c.disputed_rows-rows.ensures.known) (c.disputed_rows-rows.ensures.rows P L)) in
          let leading = c.in_ok-leading.ensures.leading P L in
          let alone : (r : RevisionId) → ¬ BundleWire P.world.known (partial P D) r host =
          λ r b. not_true _ c.if-is_required.false ((c.is_required.ensures.required P L there).1 (r, b)) in
          let imports = c.in_ok-imports.imports.items in
          let all : (row : Import) → Contains R.imports row → row.provider ≡ host.0 → IsWiredTo P D host row.revision → Contains imports row = λ row at to w.
          let wired = contains-in items row.revision ((leading row.revision).1 (steps (starts refl) w)) in
          in-contains imports row (c.in_ok-imports.ensures.imports row.revision row (subst (In row.revision) (sym c.items.ensures.items) wired) (own-import R row at) to) in
          let among = subst (In member.0) (sym c.items-3.ensures.items) (contains-in items member.0 ((leading member.0).1 (leads-back P L.is D host there h.leads))) in
          c.in_ok-clashing.ensures.all member.0 among
          (elim (through-clash P L.is D host alone there N R is A (λ r s. settled-away P L.is D c.args.unsettled.now (c.requires.unsettled P L) r s) imports all member h.clash.seen_by h.clash.used h.through h.clash.clash) [
            | inl e ↦ inl (ap (λ (r : RevisionId). r.0) e)
            | inr some ↦
                let follows = subst (λ xs. IsFollowing R A xs [] some.0) (sym c.as_slice.ensures.value) some.1 in
                inr (any-of (IsClash R member.0) _ some.0 (subst (λ xs. Contains xs some.0) (sym c.items-2.ensures.items) ((c.in_ok-through.ensures.following some.0).1 follows)) some.2)
          ]);
    }
