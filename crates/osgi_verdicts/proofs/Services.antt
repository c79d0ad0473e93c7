-- What the operations on services answer is determined: which service is best, and in which order all stand.
use Rattle.std.proofs.Common.{◌≡◌, ℕ, List, refl, sym, ap, ◌∙◌}
use Rattle.std.specs.Prelude.{◌+◌, Bool, Option, None, Some, false, Contains, IsSomeAnd}
use Rattle.std.specs.Cmp.{IsTotalOrder}
use Rattle.std.specs.Ordering.{is_gt, nat_cmp, ordering_reverse, ordering_then}
use Rattle.std.specs.declared.cmp.Ordering.{Ordering}
use Rattle.std.specs.declared.cmp.Ordering.TheVariants.{Equal, Greater, Less}
use Rattle.std.proofs.lemmas.Cmp.{back_total, int_cmp_total, nat_cmp_total, on_total, then_total, tied_itself}
use Rattle.std.proofs.lemmas.List.Elements.{All-contains}
use Rattle.std.proofs.lemmas.Map.Lookups.{exact_unsigned}
use Rattle.osgi_base.specs.declared.ids.BundleId.{BundleId}
use Rattle.osgi_base.specs.declared.ids.ServiceId.{ServiceId}
use Rattle.osgi_legal.proofs.Verdicts.{IsOne}
use Rattle.osgi_model.specs.declared.filter.Filter.{Filter}
use Rattle.osgi_ops.specs.Classes.{AreRanked, ids_of, IsBest, IsFound, IsOf, IsOpenTo, rank_cmp}
use Rattle.osgi_ops.specs.Makes.{given_text, made_count}
use Rattle.osgi_ops.specs.Moments.{Moment}
use Rattle.osgi_ops.specs.Properties.{ranking}
use Rattle.osgi_ops.specs.Services.{live_service_at, Registered, services}
use Rattle.osgi_ops.specs.declared.reply.Reply.TheVariants as answer
use Rattle.osgi_ops.specs.declared.service.Service.{Service}
use Rattle.osgi_ops.specs.laws.Members.{AreAmong, ordered-once}
use Rattle.osgi_ops.specs.rows.Services.{EndMakeAnswers, FindAllAnswers, FindAnswers, GetAnswers, got, got_reply}

rank_total : IsTotalOrder rank_cmp
rank_total = then_total (on_total (λ (s : Service). ranking s.properties) (back_total int_cmp_total)) (on_total (λ (s : Service). s.service.0) nat_cmp_total)

-- ---- the best

not-above : (o : Ordering) → is_gt o ≡ false → is_gt (ordering_reverse o) ≡ false → o ≡ Equal
not-above Less a b = cc b
not-above Equal a b = refl
not-above Greater a b = cc a

last-level : (a b : Ordering) → ordering_then a b ≡ Equal → b ≡ Equal
last-level Less b e = cc e
last-level Equal b e = e
last-level Greater b e = cc e

-- of two services neither is better than the other only where they have one id
level-id : (s t : Service) → is_gt (rank_cmp s t) ≡ false → is_gt (rank_cmp t s) ≡ false → s.service ≡ t.service
level-id s t over under =
    let level : rank_cmp s t ≡ Equal = not-above (rank_cmp s t) over (ap is_gt (sym (rank_total.antisymm t s)) ∙ under) in
    let tied : nat_cmp s.service.0 t.service.0 ≡ Equal = last-level _ _ level in
    let same : s.service.0 ≡ t.service.0 = exact_unsigned s.service.0 t.service.0 tied in
    λ i. record { 0 = same i }

module _ (IsAsked : Service → Type 0) (services : List Service) where
  one-best : (x y : ServiceId) → IsBest IsAsked services x → IsBest IsAsked services y → x ≡ y
  one-best x y a b =
      a.is
      ∙ level-id a.service b.service
      (All-contains (λ (o : Service). IsAsked o → is_gt (rank_cmp a.service o) ≡ false) services b.service a.best b.there b.asked)
      (All-contains (λ (o : Service). IsAsked o → is_gt (rank_cmp b.service o) ≡ false) services a.service b.best a.there a.asked)
      ∙ sym b.is

  one-found : IsOne (IsFound IsAsked services)
  one-found None None a b = refl
  one-found None (Some y) a b = absurd (All-contains (λ (s : Service). IsAsked s → ⊥) services b.service a b.there b.asked)
  one-found (Some x) None a b = absurd (All-contains (λ (s : Service). IsAsked s → ⊥) services a.service b a.there a.asked)
  one-found (Some x) (Some y) a b = ap Some (one-best x y a b)

  -- ---- all, the better first

  among : (xs ys : List ServiceId) (a : AreRanked IsAsked services xs) (b : AreRanked IsAsked services ys) → AreAmong a.ranked b.ranked
  among xs ys a b = λ s i.
      let has = All-contains (λ (o : Service). Contains services o × IsAsked o) a.ranked s a.only i in
      All-contains (λ (o : Service). IsAsked o → Contains b.ranked o) services s b.every has.0 has.1

  not-itself : (s : Service) → rank_cmp s s ≡ Less → ⊥
  not-itself s less = let bad : Less ≡ Equal = sym less ∙ tied_itself rank_total s in cc bad

  one-ranked : IsOne (AreRanked IsAsked services)
  one-ranked xs ys a b =
      a.are
      ∙ ap ids_of (ordered-once (λ (s t : Service). rank_cmp s t ≡ Less) not-itself rank_total.trans a.ranked b.ranked a.in_order b.in_order (among xs ys a b) (among ys xs b a))
      ∙ sym b.are

-- ---- answers

pub find-one : (now : Moment) (asker : BundleId) (class : List ℕ) (filter : Option Filter) → IsOne (FindAnswers now asker class filter)
find-one now asker class filter y z one other =
    one.1 ∙ ap answer.Best (one-found (IsOpenTo now.world asker class filter) (services now.before) one.0 other.0 one.2 other.2) ∙ sym other.1

pub find_all-one : (now : Moment) (class : List ℕ) (filter : Option Filter) → IsOne (FindAllAnswers now class filter)
find_all-one now class filter y z one other =
    one.1 ∙ ap answer.Services (one-ranked (IsOf class filter) (services now.before) one.0 other.0 one.2 other.2) ∙ sym other.1

pub get-one : (now : Moment) (own : Bool) (user : BundleId) (service : ServiceId) → IsOne (GetAnswers now own user service)
get-one now own user service y z one other = go (live_service_at service now.before) one other
  where
    go : (o : Option Registered) → IsSomeAnd o (λ r. y ≡ got_reply now r (got now own user r)) → IsSomeAnd o (λ r. z ≡ got_reply now r (got now own user r)) → y ≡ z
    go None p q = absurd p
    go (Some r) p q = p ∙ sym q

pub end_make-one : (now : Moment) → IsOne (EndMakeAnswers now)
end_make-one now y z one other = go (given_text now.tag.caller now.before) one other
  where
    go : (o : Option (List ℕ)) → IsSomeAnd o (λ text. y ≡ answer.Held (record { 0 = made_count now.before + 1 }) text) → IsSomeAnd o (λ text. z ≡ answer.Held (record { 0 = made_count now.before + 1 }) text) → y ≡ z
    go None p q = absurd p
    go (Some text) p q = p ∙ sym q
