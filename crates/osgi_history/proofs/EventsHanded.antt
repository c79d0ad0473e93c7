-- What a list of entries hands to a listener, entry by entry.
use Rattle.std.proofs.Common.{◌≡◌, ◌+◌, ◌<◌, add-one, drop-cons, get_or, suc, ◌++◌, ◌∷◌, [], ℕ, List, append_assoc, ap, drop, length, sym, ◌∙◌, refl}
use Rattle.osgi_base.specs.declared.ids.ListenerId.{ListenerId}
use Rattle.osgi_ops.specs.Along.{along}
use Rattle.osgi_ops.specs.Listening.{handed_by, handed_in}
use Rattle.osgi_ops.specs.declared.entry.Entry.{Entry}
use Rattle.osgi_ops.specs.declared.event.Event.{Event}

-- what is read of an item alone does not hang on what stands before it
read_alone : {A B : Type 0} (read : A → List B) (front other rest : List A) → along (λ before a. read a) front rest ≡ along (λ before a. read a) other rest
read_alone read front other [] = refl
read_alone read front other (a ∷ rest) = ap (λ l. read a ++ l) (read_alone read (front ++ a ∷ []) (other ++ a ∷ []) rest)

pub handed_first : (listener : ListenerId) (e : Entry) (rest : List Entry) → handed_in listener (e ∷ rest) ≡ handed_by listener e.op e.reply ++ handed_in listener rest
handed_first listener e rest = ap (λ l. handed_by listener e.op e.reply ++ l) (read_alone (λ (x : Entry). handed_by listener x.op x.reply) (e ∷ []) [] rest)

-- one entry more
pub handed_more : (listener : ListenerId) (entries : List Entry) (i : ℕ) (item : Entry) (before after all : List Event) → i < length entries → item ≡ get_or entries i item → after ≡ before ++ handed_by listener item.op item.reply →
    before ++ handed_in listener (drop i entries) ≡ all → after ++ handed_in listener (drop (i + 1) entries) ≡ all
handed_more listener entries i item before after all within is grown so_far =
    let rest : List Entry = drop (suc i) entries in
    let here : drop i entries ≡ item ∷ rest = drop-cons entries i item within ∙ ap (λ x. x ∷ rest) (sym is) in
    let read : handed_in listener (drop i entries) ≡ handed_by listener item.op item.reply ++ handed_in listener rest = ap (handed_in listener) here ∙ handed_first listener item rest in
    ap (λ n. after ++ handed_in listener (drop n entries)) (add-one i)
    ∙ ap (λ l. l ++ handed_in listener rest) grown ∙ append_assoc before (handed_by listener item.op item.reply) (handed_in listener rest) ∙ ap (λ l. before ++ l) (sym read) ∙ so_far
