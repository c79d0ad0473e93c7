-- What follows from a package that was followed is there.
use Rattle.std.proofs.Common.{◌≡◌, ℕ, inl, inr, List, [], refl, sym, subst, append-nil, Contains}
use Rattle.osgi_space_rows.specs.Rows.{RowLists}
use Rattle.osgi_space_sources.specs.computed.Adds.{Adds}
use Rattle.osgi_space_sources.specs.computed.Amongst.{IsAmong}
use Rattle.osgi_space_sources.specs.computed.Disputes.{AreDisputed, AreFollowed, IsDisputed, IsNotedEnd, IsPossible}
use Rattle.osgi_space_sources.specs.computed.Pairs.{IsNext, IsUse}
use Rattle.osgi_space_sources.specs.computed.RowSources.{Sources}
use Rattle.osgi_space_sources.specs.declared.disputed.Disputed.{Disputed}
use Rattle.osgi_space_sources.specs.declared.given.Given.{Given}
use Rattle.osgi_space_sources.proofs.Agreeing.{source-possible}
use Rattle.osgi_space_sources.proofs.constraints.follow.Goals as goal

module _ (R : RowLists) (A : ℕ → Type 0) (d : Disputed) (are : AreDisputed R d) (pair : Given) (end : IsNotedEnd d pair.source) where
  -- nothing new follows from a package that was followed
  nothing-new : (followed : List ℕ) (found : List Given) → AreFollowed R A (IsNotedEnd d) followed found → Contains followed pair.package → Adds (IsNext R A pair) found found
  nothing-new followed found all at = record {
    grown = ([], sym (append-nil found));
    exact = λ g. (
      λ old. inl old,
      λ either. elim either [
        | inl old ↦ old
        | inr next ↦ all pair.package next.0.source at (source-possible R d are end next.1.1) next.2 g (subst (λ p. IsUse R next.0.source p g) next.1.0 next.3)
      ],
    );
  }

  -- a package that is not disputed is followed once it was followed for one that has a source of it
  followed-more : (old new : List ℕ) (before found : List Given) → AreFollowed R A (IsNotedEnd d) old before → Adds (IsNext R A pair) before found → Adds (λ p. p ≡ pair.package) old new → (x : ℕ) → Sources R pair.source pair.package x → ¬ IsDisputed d pair.package
      → AreFollowed R A (IsNotedEnd d) new found
  followed-more old new before found all adds added x source undisputed p y at possible among g uses = elim ((added.exact p).0 at) [
    | inl early ↦ (adds.exact g).1 (inl (all p y early possible among g uses))
    | inr same ↦ elim (are.alike pair.package x y (source-possible R d are end source) (subst (λ q. IsPossible R (IsNotedEnd d) q y) same possible)) [
      | inr disputed ↦ absurd (undisputed disputed)
      | inl one ↦
          let h : Given = record { «package» = pair.package; source = x } in
          (adds.exact g).1 (inr (h, (refl, source), subst A (sym one) among, subst (λ z. IsUse R z pair.package g) (sym one) (subst (λ q. IsUse R y q g) same uses)))
    ]
  ]

-- more is found of what was followed
followed-kept : (R : RowLists) (A E : ℕ → Type 0) (followed : List ℕ) {Q : Given → Type 0} (before found : List Given) → Adds Q before found → AreFollowed R A E followed before → AreFollowed R A E followed found
followed-kept R A E followed before found adds all p x at possible among g uses = (adds.exact g).1 (inl (all p x at possible among g uses))

pub returns-then-has : goal.returns-then-has
returns-then-has c = record {
  added = nothing-new c.args.rows.now (IsAmong c.args.among) c.args.disputed.now c.requires.disputed c.args.pair c.requires.end c.args.followed.now c.args.found.now c.requires.followed (c.has.ensures.has.0 c.if-has.true);
  followed = c.requires.followed;
}

pub returns-then-not-some : goal.returns-then-not-some
returns-then-not-some c = record {
  added = c.in_ok-some.ensures.added;
  followed = followed-kept c.args.rows.now (IsAmong c.args.among) (IsNotedEnd c.args.disputed.now) c.args.followed.now c.args.found.now c.add_next.new.found c.in_ok-some.ensures.added c.requires.followed;
}

pub returns : goal.returns
returns c =
    let some = c.in_ok-some.ensures.some c.if-not-some.false in
    let undisputed : ¬ IsDisputed c.args.disputed.now c.args.pair.package = λ is. let yes = c.has-else-not-some.ensures.has.1 is in let no = c.if-has-2.false in cc in
    record {
      added = c.in_ok-some.ensures.added;
      followed = followed-more c.args.rows.now (IsAmong c.args.among) c.args.disputed.now c.requires.disputed c.args.pair c.requires.end c.args.followed.now c.add.new.self c.args.found.now c.add_next.new.found c.requires.followed
          c.in_ok-some.ensures.added c.in_ok-add.ensures.added some.0 some.1 undisputed;
    }
