-- What is asked for, one after another, determines a legal history and its telling: the replies, the worlds and what listeners see.
use Rattle.std.proofs.Common.{◌≡◌, List, [], ◌∷◌, ◌++◌, refl, sym, ap, ◌∙◌, subst}
use Rattle.osgi_base.specs.declared.ids.Tag.{Tag}
use Rattle.osgi_legal.proofs.Owned.{entries-last}
use Rattle.osgi_stage.proofs.ToldOnce.{told-once}
use Rattle.osgi_ops.specs.Along.{AllAlong}
use Rattle.osgi_legal.specs.Legal.{AreAllowed, IsAllowed, IsTold, Legal}
use Rattle.osgi_ops.specs.Moments.{entries_in, Moment, moment, Told, world_after}
use Rattle.osgi_legal.specs.Operations.{IsReply}
use Rattle.osgi_ops.specs.Settings.{Setting}
use Rattle.osgi_ops.specs.declared.asked.Asked.{Asked}
use Rattle.osgi_ops.specs.declared.entry.Entry.{Entry}
use Rattle.osgi_ops.specs.laws.Along.{AllAlong-join}
use Rattle.osgi_verdicts.proofs.Replies.{reply-once}
use Rattle.osgi_verdicts.specs.Asking.{asked_in}

-- the entries determine the telling
entries-once : (setting : Setting) (one other : List Told) → AreAllowed setting one → AreAllowed setting other → entries_in one ≡ entries_in other → one ≡ other
entries-once setting one other a b same =
    told-once setting (entries_in other) (world_after one) (world_after other) (record { told = one; tells = same; ends = refl; allowed = a })
    (record { told = other; tells = refl; ends = refl; allowed = b })

-- the moment behind a legal telling
told-at : (setting : Setting) (told : List Told) (tag : Tag) → AreAllowed setting told → IsTold (moment setting told tag)
told-at setting told tag a = record { told = told; tells = refl; ends = refl; seen = refl; allowed = a }

-- behind one telling the next entry is determined by what is asked for
entry-once : (setting : Setting) (front : List Told) (s t : Told) → AreAllowed setting front → IsAllowed setting front s → IsAllowed setting front t → s.entry.tag ≡ t.entry.tag → s.entry.op ≡ t.entry.op → s.entry ≡ t.entry
entry-once setting front s t legal a b tag op =
    let now : Moment = moment setting front s.entry.tag in
    let there : IsReply (moment setting front s.entry.tag) s.entry.op t.entry.reply =
    subst (λ g. IsReply (moment setting front g) s.entry.op t.entry.reply) (sym tag) (subst (λ o. IsReply (moment setting front t.entry.tag) o t.entry.reply) (sym op) b.replied) in
    let reply = reply-once now (told-at setting front s.entry.tag legal) s.entry.op s.entry.reply t.entry.reply a.replied there in
    λ i. record { tag = tag i; op = op i; reply = reply i }

asked_from : (setting : Setting) (front one other : List Told) → AreAllowed setting front → asked_in (entries_in one) ≡ asked_in (entries_in other) →
    AllAlong (IsAllowed setting) front one → AllAlong (IsAllowed setting) front other → entries_in one ≡ entries_in other
asked_from setting front [] [] legal same a b = refl
asked_from setting front [] (t ∷ other) legal same a b = absurd (cc same)
asked_from setting front (s ∷ one) [] legal same a b = absurd (cc same)
asked_from setting front (s ∷ one) (t ∷ other) legal same a b =
    let said : Asked = record { tag = s.entry.tag; op = s.entry.op } in
    let also : Asked = record { tag = t.entry.tag; op = t.entry.op } in
    let first : said ≡ also = cc same in
    let entry : s.entry ≡ t.entry = entry-once setting front s t legal a.0 b.0 (ap (λ (x : Asked). x.tag) first) (ap (λ (x : Asked). x.op) first) in
    let here : AreAllowed setting (front ++ s ∷ []) = AllAlong-join (IsAllowed setting) [] front (s ∷ []) legal (a.0, tt) in
    let there : AreAllowed setting (front ++ t ∷ []) = AllAlong-join (IsAllowed setting) [] front (t ∷ []) legal (b.0, tt) in
    let longer : front ++ t ∷ [] ≡ front ++ s ∷ [] =
    entries-once setting (front ++ t ∷ []) (front ++ s ∷ []) there here (entries-last front t ∙ ap (λ e. entries_in front ++ e ∷ []) (sym entry) ∙ sym (entries-last front s)) in
    let rest : AllAlong (IsAllowed setting) (front ++ s ∷ []) other = subst (λ l. AllAlong (IsAllowed setting) l other) longer b.1 in
    let behind : entries_in one ≡ entries_in other = asked_from setting (front ++ s ∷ []) one other here (cc same) a.1 rest in
    λ i. entry i ∷ behind i

-- two legal tellings in which the same is asked for, one after another, are one
pub telling-once : (setting : Setting) (one other : List Told) → AreAllowed setting one → AreAllowed setting other → asked_in (entries_in one) ≡ asked_in (entries_in other) → one ≡ other
telling-once setting one other a b same = entries-once setting one other a b (asked_from setting [] one other tt same a b)

-- so two legal histories in which the same is asked for are one
pub history-once : (setting : Setting) (one other : List Entry) → Legal setting one → Legal setting other → asked_in one ≡ asked_in other → one ≡ other
history-once setting one other (w, a) (v, b) same =
    sym a.tells ∙ ap entries_in (telling-once setting a.told b.told a.allowed b.allowed (ap asked_in a.tells ∙ same ∙ sym (ap asked_in b.tells))) ∙ b.tells
