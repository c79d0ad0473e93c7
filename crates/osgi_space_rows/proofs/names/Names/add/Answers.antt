-- The indices with one name more.
use Rattle.std.proofs.Common.{◌≡◌, ◌++◌, ◌∷◌, [], ℕ, List, length, sym, ◌∙◌, ap, subst, rules}
use Rattle.std.specs.Prelude.{Some}
use Rattle.std.specs.BTreeMap.{Updates}
use Rattle.std.specs.Cmp.Lexicographic.{slice_cmp}
use Rattle.std.specs.Ordering.{nat_cmp}
use Rattle.osgi_space_rows.specs.Names.{HasNumber}
use Rattle.osgi_space_rows.specs.computed.Digests.{digest_of}
use Rattle.osgi_space_rows.specs.computed.Numbers.{AreNumbersOf}
use Rattle.osgi_space_rows.proofs.Numbered.{first_push, nothing, other_push}
use Rattle.osgi_space_rows.proofs.names.Names.add.Goals.{then-contains_key+in_ok-copy+in_ok-insert, else-contains_key+in_ok-insert-2}
use Rattle.osgi_space_rows.proofs.names.Names.add.Goals as goal

pub invariant_of-self-2 : goal.invariant_of-self-2
invariant_of-self-2 c =
    let names = c.self.inside.texts.items in
    let name = c.args.text.now in
    let by_digest = c.self.inside.by_digest in
    let by_text = c.self.inside.by_text in
    let next : c.in-Ok.next ≡ length names = search rules in
    let new = subst (λ (l : List (List ℕ)). (number : ℕ) → ¬ HasNumber l name number) (sym c.self.view_is) c.requires.new in
    elim c.if-contains_key.branch [
      | then-contains_key+in_ok-copy+in_ok-insert w ↦
          let texts : c.if-contains_key.self-inside.texts.items ≡ names = ap (λ s. s.texts.items) w.self-inside-is ∙ search rules in
          let pushed : c.push.new.self.items ≡ names ++ name ∷ [] = search (rules, texts) in
          let keyed = subst (λ key. Updates (slice_cmp nat_cmp) by_text w.insert.new.self key (Some c.in-Ok.next)) w.in_ok-copy.ensures.same w.in_ok-insert.ensures.updates in
          let updates = subst (λ n. Updates (slice_cmp nat_cmp) by_text w.insert.new.self name (Some n)) next keyed in
          let are = other_push names name new by_digest by_text c.self.invariant w.insert.new.self updates in
          subst (λ s. AreNumbersOf s.by_digest s.by_text c.push.new.self.items) (sym w.self-inside-is) (subst (AreNumbersOf by_digest w.insert.new.self) (sym pushed) are)
      | else-contains_key+in_ok-insert-2 w ↦
          let texts : c.if-contains_key.self-inside.texts.items ≡ names = ap (λ s. s.texts.items) w.self-inside-is ∙ search rules in
          let pushed : c.push.new.self.items ≡ names ++ name ∷ [] = search (rules, texts) in
          let keyed = subst (λ key. Updates nat_cmp by_digest w.insert-else-contains_key.new.self key (Some c.in-Ok.next)) c.digest-digest.ensures.digest w.in_ok-insert-2.ensures.updates in
          let updates = subst (λ n. Updates nat_cmp by_digest w.insert-else-contains_key.new.self (digest_of name) (Some n)) next keyed in
          let are = first_push names name new by_digest by_text c.self.invariant w.insert-else-contains_key.new.self updates (nothing _ (search rules)) in
          subst (λ s. AreNumbersOf s.by_digest s.by_text c.push.new.self.items) (sym w.self-inside-is) (subst (AreNumbersOf w.insert-else-contains_key.new.self by_text) (sym pushed) are)
    ]

pub returns-clause-once : goal.returns-clause-once
returns-clause-once c = (invariant_of-self-2 c).once
