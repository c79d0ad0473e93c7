-- The candidates of a member's rivals, taken out one rival after the other.
use Rattle.std.proofs.Common.{◌≡◌, ℕ, zero, suc, ◌<◌, get_or, inl, inr, List, [], ◌∷◌, ◌++◌, length, refl, sym, ◌∙◌, ap, subst, append_assoc, arith}
use Rattle.std.proofs.lemmas.List.{length-append}
use Rattle.osgi_base.specs.declared.ids.RevisionId.{RevisionId}
use Rattle.osgi_candidate_rows.specs.Listed.{Listed, TakesOut}
use Rattle.osgi_resolver_path.specs.Standing.{IsProblemOf, Standing, made}
use Rattle.osgi_resolver_theory.proofs.Lists.{in-append_cases}
use Rattle.osgi_world.specs.Consistency.{AreRivals}
use Rattle.osgi_world.specs.DueDecisions.{members}
use Rattle.osgi_world.specs.Lists.{In}
use Rattle.osgi_world.specs.Lookups.{symbolic_name}
use Rattle.osgi_world.specs.declared.problem.Problem.{Problem}
use Rattle.osgi_world.specs.declared.wiring.CapRef.{CapRef}
use Rattle.osgi_world.specs.declared.world.Known.{Known}
use Rattle.osgi_resolver_solve.specs.computed.Layers.{TakesDoomed, TakesRivals}

more-go : (K : List Known) (member provider : RevisionId) (taken more : List CapRef) (c : CapRef) → ((x : CapRef) → In x taken → AreRivals K x.provider member) → ((x : CapRef) → In x more → x.provider ≡ provider) → AreRivals K provider member → In c (more ++ taken) → AreRivals K c.provider member
more-go K member provider taken more c are of rival i = elim (in-append_cases more taken c i) [ inl j ↦ subst (λ r. AreRivals K r member) (sym (of c j)) rival | inr j ↦ are c j ]

-- those of one rival more
pub takes-more : (K : List Known) (member provider : RevisionId) (l m k : Listed) (n j : ℕ) → TakesRivals K member l n m → TakesOut provider n m j k → AreRivals K provider member → TakesRivals K member l j k
takes-more K member provider l m k n j t o rival = record {
  choices = o.choices ∙ t.choices;
  taken = o.taken ++ t.taken;
  out = o.out ∙ ap (λ (xs : List CapRef). o.taken ++ xs) t.out ∙ sym (append_assoc o.taken t.taken l.out);
  number = (let a = t.number in let b = o.number in let s = length-append o.taken t.taken in omega (arith, a, b, s));
  rivals = λ c i. more-go K member provider t.taken o.taken c t.rivals o.of_provider rival i;
}

-- rivals of a member
pub doomed-of : (s : Standing) (member : RevisionId) (l m : Listed) (n : ℕ) → TakesRivals s.world.known member l n m → ((P : Problem) → IsProblemOf s P → In member (members P (made P s))) → TakesDoomed s l n m
doomed-of s member l m n t there = record {
  choices = t.choices;
  taken = t.taken;
  out = t.out;
  number = t.number;
  doomed = λ P of c i. record { member = member; is_member = there P of; rivals = subst (λ K. AreRivals K c.provider member) (sym (ap (λ w. w.known) of.world)) (t.rivals c i) };
}

pub doomed-none : (s : Standing) (l : Listed) → TakesDoomed s l 0 l
doomed-none s l = record { choices = refl; taken = []; out = refl; number = refl; doomed = λ P of c i. elim i [ ] }

-- ---- revisions of one symbolic name

pub at-in : (xs : List RevisionId) (n : ℕ) (d : RevisionId) → n < length xs → In (get_or xs n d) xs
at-in [] n d h = absurd (let h' : n < 0 = h in omega (arith, h'))
at-in (x ∷ xs) zero d h = inl refl
at-in (x ∷ xs) (suc n) d h = inr (at-in xs n d (let h' : suc n < suc (length xs) = h in omega (arith, h')))

-- one of those that are listed by the member's name has it
pub same-name : (K N : List Known) (member other : RevisionId) (name : List ℕ) → N ≡ K → symbolic_name K member ≡ name → symbolic_name N other ≡ name → symbolic_name K other ≡ symbolic_name K member
same-name K N member other name same of is = subst (λ L. symbolic_name L other ≡ name) same is ∙ sym of
