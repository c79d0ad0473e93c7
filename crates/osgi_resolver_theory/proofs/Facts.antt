-- The facts on words, for all extensions of a word.
use Rattle.std.proofs.Common.{◌≡◌, ℕ, ◌<◌, ◌↔◌, List, [], ◌∷◌, ◌++◌, Option, None, Some, refl, sym, subst, arith}
use Rattle.osgi_base.specs.declared.ids.RevisionId.{RevisionId}
use Rattle.osgi_world.specs.Candidates.{IsProblem}
use Rattle.osgi_world.specs.Consistency.{Extends}
use Rattle.osgi_world.specs.Decisions.{Decision, Made}
use Rattle.osgi_world.specs.DueDecisions.{members, next_decision}
use Rattle.osgi_world.specs.Partial.{partial}
use Rattle.osgi_world.specs.Hopeless.{IsDecided, IsSettled}
use Rattle.osgi_world.specs.Lists.{In}
use Rattle.osgi_world.specs.ChoiceWords.{FitsFrom, IsWord, made_after, decide, arity_of, made_by, make, partial_of}
use Rattle.osgi_world.specs.declared.problem.Problem.{Problem}
use Rattle.osgi_world.specs.declared.wiring.Wiring.{Wiring}
use Rattle.osgi_world.specs.declared.world.Known.{Known}
use Rattle.osgi_resolver_theory.proofs.Agree.{Part, offer-same}
use Rattle.osgi_resolver_theory.proofs.Complete.{all-settled, hopeful-iff_extends}
use Rattle.osgi_resolver_theory.proofs.Ends.{followed}
use Rattle.osgi_resolver_theory.proofs.Follow.{end-cut, end-extends, end-joins}
use Rattle.osgi_resolver_theory.proofs.Growth.{grew}
use Rattle.osgi_resolver_theory.proofs.Settled.{Grew, settled-sources, settled-sources_back, settled-stays}
use Rattle.osgi_resolver_theory.proofs.Walk.{hopeless-all}
use Rattle.osgi_resolver_theory.proofs.Words.{after-append, append-fits, state-word, word-prefix, word-state}
use Rattle.osgi_resolver_theory.specs.Cuts.{IsCut, Joins}
use Rattle.osgi_resolver_theory.specs.Facts.{CompleteExtends, CompleteSettles, ExtensionsAreWords, HopelessStays, SettledStays}
use Rattle.osgi_resolver_theory.specs.States.{State, step}

part-refl : {K : List Known} {W : List Wiring} {r : RevisionId} → Part K W W r
part-refl = record { attached = λ f h. h; wires = λ w h t. h }

part-trans : {K : List Known} {U V W : List Wiring} {r : RevisionId} → Part K U V r → Part K V W r → Part K U W r
part-trans a b = record { attached = λ f h. b.attached f (a.attached f h); wires = λ w h t. b.wires w (a.wires w h t) t }

grew-trans : {K : List Known} {U V W : List Wiring} {A B C : RevisionId → Type 0} → Grew K U V A B → Grew K V W B C → Grew K U W A C
grew-trans f g = record {
  up = λ r. part-trans (f.up r) (g.up r);
  kept = λ r a. part-trans (g.kept r (f.still r a)) (f.kept r a);
  still = λ r a. g.still r (f.still r a);
}

-- the step to one value more; then the others
grew-answer : (P : Problem) → IsProblem P → (D : Made) (v : ℕ) → State P D → (o : Option Decision) → next_decision P D ≡ o → v < arity_of P o → Grew P.world.known (partial P D) (partial P (make o D v)) (IsDecided P D) (IsDecided P (make o D v)) × State P (make o D v)
grew-answer P L D v s None e h = absurd (omega (arith, h))
grew-answer P L D v s (Some d) e h = (grew P L D d v s e h, step s e h)

pub grew-after : (P : Problem) → IsProblem P → (D : Made) (u : List ℕ) → State P D → FitsFrom P D u → Grew P.world.known (partial P D) (partial P (made_after P D u)) (IsDecided P D) (IsDecided P (made_after P D u))
grew-after P L D [] s f = record { up = λ r. part-refl; kept = λ r a. part-refl; still = λ r a. a }
grew-after P L D (v ∷ u) s f =
    let g = grew-answer P L D v s (next_decision P D) refl f.0 in
    grew-trans g.0 (grew-after P L (decide P D v) u g.1 f.1)

grew-word : (P : Problem) → IsProblem P → (w more : List ℕ) → IsWord P (w ++ more) → Grew P.world.known (partial_of P w) (partial_of P (w ++ more)) (IsDecided P (made_by P w)) (IsDecided P (made_by P (w ++ more)))
grew-word P L w more f =
    subst (λ D. Grew P.world.known (partial_of P w) (partial P D) (IsDecided P (made_by P w)) (IsDecided P D)) (sym (after-append P [] w more))
    (grew-after P L (made_by P w) more (word-state P w (word-prefix P w more f)) (append-fits P [] w more f).1)

pub settled_stays : (P : Problem) → IsProblem P → SettledStays P
settled_stays P L w more r f s =
    let g = grew-word P L w more f in
    record {
      settled = settled-stays g s;
      sources = λ p x. (settled-sources g s, settled-sources_back g s);
      offer = λ c e.
          let here = subst (IsSettled P (made_by P w)) (sym e) s in
          (offer-same c (g.up c.provider) (g.kept c.provider here.own), offer-same c (g.kept c.provider here.own) (g.up c.provider));
    }

pub hopeless_stays : (P : Problem) → IsProblem P → HopelessStays P
hopeless_stays P L w more f h = hopeless-all P L more w h f

pub complete_settles : (P : Problem) → IsProblem P → CompleteSettles P
complete_settles P L w r f c i = all-settled P L (made_by P w) c r i

pub complete_extends : (P : Problem) → IsProblem P → CompleteExtends P
complete_extends P L w f c = hopeful-iff_extends P L (made_by P w) (word-state P w f) c

pub extensions_are_words : (P : Problem) → IsProblem P → ExtensionsAreWords P
extensions_are_words P L V x =
    let e = followed P L V x in
    let w = state-word P e.made e.state in
    let good = end-extends P L V x e.made e.state e.follows e.complete in
    let cut = end-cut P L V x e.made e.state e.follows e.complete in
    let same = sym w.2 in (
      w.0,
      record {
        good = (w.1, subst (λ D. next_decision P D ≡ None) same e.complete, subst (λ D. Extends P.world.known P.world.wirings (partial P D) P.root) same good);
        cut = subst (λ D. IsCut (partial P D) V) same cut;
        reached = λ m. subst (λ D. In m (members P D) ↔ Joins P V m) same (e.follows.joins m, end-joins P L V x e.made e.state e.follows e.complete m);
      },
    )
