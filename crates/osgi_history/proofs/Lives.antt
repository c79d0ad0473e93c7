-- The bundles of a history with one more entry at its end: which are live, and what was last said of them.
use Rattle.std.proofs.Common.{◌≡◌, ◌≢◌, ℕ, ◌+◌, ◌<◌, ◌≤◌, List, [], ◌∷◌, ◌++◌, length, length-append, get_or, take, map, ap, sym, ◌∙◌, refl, arith}
use Rattle.std.specs.Prelude.{◌==◌, ◌&&◌, ◌||◌, Bool, true, false, cond, not, Option, None, Some, unwrap_or}
use Rattle.std.specs.List.{list_any}
use Rattle.std.specs.Option.{option_map}
use Rattle.std.proofs.lemmas.Bool.{eqb-true, ne_eqb}
use Rattle.std.proofs.lemmas.List.{length-map, take_all, take_more}
use Rattle.std.proofs.lemmas.List.Folds.{list_any-append}
use Rattle.osgi_base.specs.declared.ids.BundleId.{BundleId}
use Rattle.osgi_history.specs.computed.States.{installs, is_live_after, number_in}
use Rattle.osgi_stage.proofs.States.{state-agrees}
use Rattle.osgi_legal.specs.States.{state_at}
use Rattle.osgi_ops.specs.Along.{latest}
use Rattle.osgi_ops.specs.Bundles.{idle, Installed, installed, installed_by, is_live, is_uninstall, live, number_of, Phase, phase, put_into, state}
use Rattle.osgi_legal.specs.Legal.{IsReplayed}
use Rattle.osgi_ops.specs.Settings.{Setting}
use Rattle.osgi_ops.specs.declared.entry.Entry.{Entry}
use Rattle.osgi_ops.specs.declared.op.Op.{Op}
use Rattle.osgi_ops.specs.declared.op.Op.TheVariants.{Install}
use Rattle.osgi_ops.specs.declared.reply.Reply.{Reply}
use Rattle.osgi_ops.specs.declared.reply.Reply.TheVariants.{Bundle}
use Rattle.osgi_ops.specs.laws.Along.{latest-quiet, latest-set}
use Rattle.osgi_ops.specs.laws.Bundles.{any-map, has_id, installed-push, later, left_by, live-any, live-push}
use Rattle.osgi_world.specs.declared.world.World.{World}

-- one of them is the bundle
abbrev pub any_is : BundleId → List Installed → Bool
any_is b list = list_any (has_id b) list

-- what an entry leaves live
left_one : (b : BundleId) (o : Op) (reply : Reply) (i : Installed) (gone here : Bool) (more : Bool) → is_uninstall i.bundle o reply ≡ gone → (i.bundle.0 == b.0) ≡ here → (rest : List Installed) → any_is b rest ≡ (more && not (is_uninstall b o reply)) →
    any_is b (cond (not (is_uninstall i.bundle o reply)) (i ∷ rest) rest) ≡ (((i.bundle.0 == b.0) || more) && not (is_uninstall b o reply))
left_one b o reply i gone true more is same rest later =
    let one : i.bundle ≡ b = (let e : i.bundle.0 ≡ b.0 = eqb-true i.bundle.0 b.0 same in λ j. record { 0 = e j }) in
    by (is_uninstall b o reply) more (ap (λ c. is_uninstall c o reply) one) later
  where
    by : (u : Bool) (m : Bool) → is_uninstall i.bundle o reply ≡ u → any_is b rest ≡ (m && not u) → any_is b (cond (not (is_uninstall i.bundle o reply)) (i ∷ rest) rest) ≡ (((i.bundle.0 == b.0) || m) && not u)
    by true true e l = ap (λ c. any_is b (cond (not c) (i ∷ rest) rest)) e ∙ l ∙ sym (ap (λ k. (k || true) && false) same)
    by true false e l = ap (λ c. any_is b (cond (not c) (i ∷ rest) rest)) e ∙ l ∙ sym (ap (λ k. (k || false) && false) same)
    by false m e l = ap (λ c. any_is b (cond (not c) (i ∷ rest) rest)) e ∙ ap (λ k. k || any_is b rest) same ∙ sym (ap (λ k. (k || m) && true) same)
left_one b o reply i true false more is same rest later = ap (λ c. any_is b (cond (not c) (i ∷ rest) rest)) is ∙ later ∙ sym (ap (λ k. (k || more) && not (is_uninstall b o reply)) same)
left_one b o reply i false false more is same rest later =
    ap (λ c. any_is b (cond (not c) (i ∷ rest) rest)) is ∙ ap (λ k. k || any_is b rest) same ∙ later ∙ sym (ap (λ k. (k || more) && not (is_uninstall b o reply)) same)

any_left : (b : BundleId) (e : Entry) (list : List Installed) → any_is b (left_by e list) ≡ (any_is b list && not (is_uninstall b e.op e.reply))
any_left b e [] = refl
any_left b e (i ∷ rest) = left_one b e.op e.reply i (is_uninstall i.bundle e.op e.reply) (i.bundle.0 == b.0) (any_is b rest) refl refl (left_by e rest) (any_left b e rest)

-- after one more entry
any_push : (b : BundleId) (history : List Entry) (e : Entry) →
    any_is b (live (history ++ e ∷ [])) ≡ ((any_is b (live history) && not (is_uninstall b e.op e.reply)) || any_is b (installed_by (length (installed history)) e.op e.reply []))
any_push b history e =
    ap (any_is b) (live-push history e)
    ∙ list_any-append (has_id b) (map (later e) (left_by e (live history))) (installed_by (length (installed history)) e.op e.reply [])
    ∙ ap (λ k. k || any_is b (installed_by (length (installed history)) e.op e.reply [])) (any-map (has_id b) (later e) (left_by e (live history)) ∙ any_left b e (live history))

or_nothing : (k : Bool) → (k || false) ≡ k
or_nothing true = refl
or_nothing false = refl

and_all : (k : Bool) → (k && true) ≡ k
and_all true = refl
and_all false = refl

new_by : (b : BundleId) (earlier : ℕ) (o : Op) (reply : Reply) (before : Bool) → ((before && not (is_uninstall b o reply)) || any_is b (installed_by earlier o reply [])) ≡ is_live_after b earlier before o reply
new_by b earlier (Install location) (Bundle bundle false) before = ap (λ k. k || ((earlier + 1 == b.0) || false)) (and_all before) ∙ ap (λ k. before || k) (or_nothing (earlier + 1 == b.0))
new_by b earlier o reply before = or_nothing (before && not (is_uninstall b o reply))

-- what an entry installs is live from then on, and what it uninstalls is not
live_next : (b : BundleId) (history : List Entry) (e : Entry) → any_is b (live (history ++ e ∷ [])) ≡ is_live_after b (length (installed history)) (any_is b (live history)) e.op e.reply
live_next b history e = any_push b history e ∙ new_by b (length (installed history)) e.op e.reply (any_is b (live history))

count_by_one : (earlier : ℕ) (o : Op) (reply : Reply) → length (installed_by earlier o reply []) ≡ cond (installs o reply) 1 0
count_by_one earlier (Install location) (Bundle bundle false) = refl
count_by_one earlier o reply = refl

count_next : (history : List Entry) (e : Entry) → length (installed (history ++ e ∷ [])) ≡ length (installed history) + cond (installs e.op e.reply) 1 0
count_next history e =
    ap length (installed-push history e)
    ∙ length-append (map (later e) (installed history)) (installed_by (length (installed history)) e.op e.reply [])
    ∙ (λ i. length-map (installed history) (later e) i + count_by_one (length (installed history)) e.op e.reply i)

-- the entries up to the one at i
next : (entries : List Entry) (i : ℕ) (e : Entry) → i < length entries → e ≡ get_or entries i e → take (i + 1) entries ≡ take i entries ++ e ∷ []
next entries i e within is = take_more entries i e within ∙ ap (λ (x : Entry). take i entries ++ x ∷ []) (sym is)

pub live-next : (b : BundleId) (entries : List Entry) (i : ℕ) (e : Entry) (before : Bool) (earlier : ℕ) → i < length entries → e ≡ get_or entries i e →
    before ≡ any_is b (live (take i entries)) → earlier ≡ length (installed (take i entries)) → is_live_after b earlier before e.op e.reply ≡ any_is b (live (take (i + 1) entries))
live-next b entries i e before earlier within is was count =
    (λ j. is_live_after b (count j) (was j) e.op e.reply) ∙ sym (live_next b (take i entries) e) ∙ ap (λ l. any_is b (live l)) (sym (next entries i e within is))

pub count-next : (entries : List Entry) (i : ℕ) (e : Entry) (earlier more : ℕ) (new : Bool) → i < length entries → e ≡ get_or entries i e →
    new ≡ installs e.op e.reply → more ≡ cond new 1 0 → earlier ≡ length (installed (take i entries)) → earlier + more ≡ length (installed (take (i + 1) entries))
count-next entries i e earlier more new within is installing counted count =
    (λ j. count j + (counted ∙ ap (λ k. cond k 1 0) installing) j) ∙ sym (count_next (take i entries) e) ∙ ap (λ l. length (installed l)) (sym (next entries i e within is))

-- an entry installs one bundle at most
pub one-more : (more : ℕ) (new : Bool) → more ≡ cond new 1 0 → more ≤ 1
one-more more true is = omega (arith, is)
one-more more false is = omega (arith, is)

-- all entries
pub live-all : (b : BundleId) (entries : List Entry) (i : ℕ) → b.0 ≢ 0 → length entries ≤ i → any_is b (live (take i entries)) ≡ is_live b entries
live-all b entries i other all =
    ap (λ l. any_is b (live l)) (take_all i entries all) ∙ ap (λ k. k || any_is b (live entries)) (sym (ne_eqb b.0 0 other)) ∙ sym (live-any b entries)

-- ---- what entries say last

-- what the last entry that says something says
pub said-next : {A : Type 0} (says : Entry → Option A) (first before : A) (entries : List Entry) (i : ℕ) (e : Entry) (said : Option A) → i < length entries → e ≡ get_or entries i e →
    said ≡ says e → before ≡ unwrap_or (latest says (take i entries)) first → unwrap_or said before ≡ unwrap_or (latest says (take (i + 1) entries)) first
said-next {A} says first before entries i e said within is says-so was =
    by said (sym says-so) ∙ ap (λ l. unwrap_or (latest says l) first) (sym (next entries i e within is))
  where
    by : (o : Option A) → says e ≡ o → unwrap_or o before ≡ unwrap_or (latest says (take i entries ++ e ∷ [])) first
    by None none = was ∙ ap (λ o. unwrap_or o first) (sym (latest-quiet says (take i entries) e none))
    by (Some now) some = ap (λ o. unwrap_or o first) (sym (latest-set says (take i entries) e now some))

-- the number of what they put it into last
pub number-next : (b : BundleId) (entries : List Entry) (i : ℕ) (e : Entry) (put : Option ℕ) (before : ℕ) → i < length entries → e ≡ get_or entries i e →
    put ≡ option_map number_in (put_into b e.op e.reply) → before ≡ number_in (phase b (take i entries)) → unwrap_or put before ≡ number_in (phase b (take (i + 1) entries))
number-next b entries i e put before within is puts was =
    (λ j. unwrap_or (puts j) (was j)) ∙ number_of_last (put_into b e.op e.reply) (phase b (take i entries))
    ∙ ap number_in (said-next (λ (x : Entry). put_into b x.op x.reply) idle (phase b (take i entries)) entries i e (put_into b e.op e.reply) within is refl refl)
  where
    number_of_last : (o : Option Phase) (p : Phase) → unwrap_or (option_map number_in o) (number_in p) ≡ number_in (unwrap_or o p)
    number_of_last None p = refl
    number_of_last (Some now) p = refl

-- ---- histories that replay

-- a state is read off the entries alone
pub number-replayed : (setting : Setting) (world : World) (history : List Entry) (b : BundleId) → IsReplayed setting history world → number_of (state_at history b) ≡ number_of (state world history b)
number-replayed setting world history b replayed =
    ap (λ h. number_of (state_at h b)) (sym replayed.tells)
    ∙ ap number_of (sym (state-agrees setting replayed.told replayed.allowed b))
    ∙ (λ i. number_of (state (replayed.ends i) (replayed.tells i) b))
