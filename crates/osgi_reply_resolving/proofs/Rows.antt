-- The rows of bundles that become resolved.
use Rattle.std.proofs.Common.{◌≡◌, ◌+◌, ℕ, suc, ◌<◌, inl, inr, List, [], ◌∷◌, ◌++◌, length, map, filter, get_or, ap, sym, subst, ◌∙◌, refl, arith}
use Rattle.std.specs.Prelude.{All, Bool, true, false, cond, not, ◌==◌, ◌&&◌, ◌||◌, Err, find, IfOk, IsSomeAnd, None, Ok, Option, Result, Some}
use Rattle.std.specs.List.{list_any}
use Rattle.std.specs.Option.{option_map_or}
use Rattle.std.proofs.lemmas.Bool.{eq-eqb, eqb-true, ne_eqb}
use Rattle.std.proofs.lemmas.List.Elements.{All-cons, All-nil}
use Rattle.osgi_base.specs.declared.ids.BundleId.{BundleId}
use Rattle.osgi_bundle.proofs.Finding.{ids_rise}
use Rattle.osgi_bundle.specs.Rows.{AreInOrder, bundle_number, has_bundle_id, IsSettable, row_at, set_in, TableRows, with_state}
use Rattle.osgi_bundle.specs.Stands.{kept_of}
use Rattle.osgi_bundle.specs.declared.kept.BundleKept.{BundleKept}
use Rattle.osgi_ops.specs.Bundles.{Active, Bundle, is_live, is_up as is_up_state, number_of, Phase, phase, running, state, Uninstalled}
use Rattle.osgi_ops.specs.Bundles as phases
use Rattle.osgi_ops.specs.Resolved.{current_revision, has_revision, is_in_use, is_resolved}
use Rattle.osgi_ops.specs.States.{is_up}
use Rattle.osgi_ops.specs.declared.entry.Entry.{Entry}
use Rattle.osgi_ops.specs.declared.state.TheConstants.{INSTALLED, RESOLVED}
use Rattle.osgi_wiring.specs.States.{with_wirings}
use Rattle.osgi_world.specs.Lists.{In}
use Rattle.osgi_world.specs.declared.wiring.Wiring.{Wiring}
use Rattle.osgi_world.specs.declared.world.Known.{Known}
use Rattle.osgi_world.specs.declared.world.World.{World}
use Rattle.osgi_tables.specs.Changes.{with_resolved}
use Rattle.osgi_reply_resolving.specs.computed.Searched.{is_newly, listed}

-- ---- lists

or_assoc : (a b c : Bool) → (a || (b || c)) ≡ ((a || b) || c)
or_assoc true b c = refl
or_assoc false b c = refl

any_append : {X : Type 0} (p : X → Bool) (xs ys : List X) → list_any p (xs ++ ys) ≡ (list_any p xs || list_any p ys)
any_append p [] ys = refl
any_append p (x ∷ xs) ys = ap (λ b. p x || b) (any_append p xs ys) ∙ or_assoc (p x) (list_any p xs) (list_any p ys)

map_same : {X Y : Type 0} (f g : X → Y) (xs : List X) → ((x : X) → In x xs → f x ≡ g x) → map f xs ≡ map g xs
map_same f g [] same = refl
map_same f g (x ∷ xs) same = λ i. same x (inl refl) i ∷ map_same f g xs (λ y there. same y (inr there)) i

pub map_twice : {X Y Z : Type 0} (f : Y → Z) (g : X → Y) (xs : List X) → map f (map g xs) ≡ map (λ x. f (g x)) xs
map_twice f g [] = refl
map_twice f g (x ∷ xs) = ap (λ l. f (g x) ∷ l) (map_twice f g xs)

map_itself : {X : Type 0} (xs : List X) → xs ≡ map (λ x. x) xs
map_itself [] = refl
map_itself (x ∷ xs) = ap (λ l. x ∷ l) (map_itself xs)

filtered_by : {X Y Z : Type 0} (g : Y → Z) (h : X → Z) (y : Y) (x : X) (ys : List Y) (zs : List X) (t : Bool) → g y ≡ h x → map g ys ≡ map h zs → map g (cond t (y ∷ ys) ys) ≡ map h (cond t (x ∷ zs) zs)
filtered_by g h y x ys zs true one more = λ i. one i ∷ more i
filtered_by g h y x ys zs false one more = more

filtered : {X Y Z : Type 0} (p : Y → Bool) (q : X → Bool) (f : X → Y) (g : Y → Z) (h : X → Z) (xs : List X) → ((x : X) → In x xs → p (f x) ≡ q x) → ((x : X) → g (f x) ≡ h x) → map g (filter p (map f xs)) ≡ map h (filter q xs)
filtered p q f g h [] same is = refl
filtered p q f g h (x ∷ xs) same is =
    ap (λ t. map g (cond t (f x ∷ filter p (map f xs)) (filter p (map f xs)))) (same x (inl refl))
    ∙ filtered_by g h (f x) x (filter p (map f xs)) (filter q xs) (q x) (is x) (filtered p q f g h xs (λ y there. same y (inr there)) is)

-- ---- what a wiring that is added resolves

module _ (W : World) (added : List Wiring) where
  used_by : (o : Option Known) → option_map_or (λ (k : Known). is_in_use (W.wirings ++ added) k.id) o false ≡ (option_map_or (λ (k : Known). is_in_use W.wirings k.id) o false || option_map_or (λ (k : Known). is_in_use added k.id) o false)
  used_by None = refl
  used_by (Some k) = any_append (has_revision k.id) W.wirings added

  -- a bundle is resolved if it was, or is by these
  pub resolved_or : (b : BundleId) → is_resolved (with_wirings W added) b ≡ (is_resolved W b || option_map_or (λ (k : Known). is_in_use added k.id) (current_revision W b) false)
  resolved_or b = used_by (current_revision W b)

  or_stays : (x y : Bool) → x ≡ true → (x || y) ≡ true
  or_stays true y is = refl
  or_stays false y is = absurd (cc is)

  pub stays_resolved : (b : BundleId) → is_resolved W b ≡ true → is_resolved (with_wirings W added) b ≡ true
  stays_resolved b is = resolved_or b ∙ or_stays (is_resolved W b) (option_map_or (λ (k : Known). is_in_use added k.id) (current_revision W b) false) is

and_false : (x : Bool) → false ≡ (x && false)
and_false true = refl
and_false false = refl

and_true : (x : Bool) → x ≡ (x && true)
and_true true = refl
and_true false = refl

newly_by : (own : Bool) (p : Phase) (resolved used then : Bool) → then ≡ (resolved || used) → (is_up_state (cond own Active (running p resolved)) ≡ true → resolved ≡ true) →
    ((number_of (cond own Active (running p resolved)) == INSTALLED) && used) ≡ (then && not resolved)
newly_by true p true used then is up = and_false then
newly_by true p false used then is up = absurd (cc (up refl))
newly_by false phases.idle true used then is up = and_false then
newly_by false phases.idle false used then is up = sym is ∙ and_true then
newly_by false phases.starting true used then is up = and_false then
newly_by false phases.starting false used then is up = absurd (cc (up refl))
newly_by false phases.active true used then is up = and_false then
newly_by false phases.active false used then is up = absurd (cc (up refl))
newly_by false phases.stopping true used then is up = and_false then
newly_by false phases.stopping false used then is up = absurd (cc (up refl))

state_up : (own : Bool) (p : Phase) (then : Bool) → is_up_state (cond own Active (running p true)) ≡ true → cond (then && false) RESOLVED (number_of (cond own Active (running p true))) ≡ number_of (cond own Active (running p then))
state_up true p true up = refl
state_up true p false up = refl
state_up false phases.idle then up = absurd (cc up)
state_up false phases.starting true up = refl
state_up false phases.starting false up = refl
state_up false phases.active true up = refl
state_up false phases.active false up = refl
state_up false phases.stopping true up = refl
state_up false phases.stopping false up = refl

state_by : (own : Bool) (p : Phase) (resolved then : Bool) → (is_up_state (cond own Active (running p resolved)) ≡ true → resolved ≡ true) → (resolved ≡ true → then ≡ true) →
    cond (then && not resolved) RESOLVED (number_of (cond own Active (running p resolved))) ≡ number_of (cond own Active (running p then))
state_by true p true then up stays = state_up true p then refl
state_by true p false then up stays = absurd (cc (up refl))
state_by false phases.idle true true up stays = refl
state_by false phases.idle true false up stays = absurd (cc (stays refl))
state_by false phases.idle false true up stays = refl
state_by false phases.idle false false up stays = refl
state_by false phases.starting true then up stays = state_up false phases.starting then refl
state_by false phases.starting false then up stays = absurd (cc (up refl))
state_by false phases.active true then up stays = state_up false phases.active then refl
state_by false phases.active false then up stays = absurd (cc (up refl))
state_by false phases.stopping true then up stays = state_up false phases.stopping then refl
state_by false phases.stopping false then up stays = absurd (cc (up refl))

-- the bundle is live, and resolved where it is up
pub record IsSteady (W : World) (h : List Entry) (b : Bundle) : Type 0 where
  pub live : is_live b.bundle h ≡ true
  pub up : is_up_state (state W h b.bundle) ≡ true → is_resolved W b.bundle ≡ true

-- the state of a live bundle
state_live : (W : World) (h : List Entry) (b : Bundle) → is_live b.bundle h ≡ true → state W h b.bundle ≡ cond (b.bundle.0 == 0) Active (running (phase b.bundle h) (is_resolved W b.bundle))
state_live W h b is = ap (λ t. cond (b.bundle.0 == 0) Active (cond t (running (phase b.bundle h) (is_resolved W b.bundle)) Uninstalled)) is

up_by : (W : World) (h : List Entry) (b : Bundle) → IsSteady W h b → is_up_state (cond (b.bundle.0 == 0) Active (running (phase b.bundle h) (is_resolved W b.bundle))) ≡ true → is_resolved W b.bundle ≡ true
up_by W h b steady up = steady.up (ap is_up_state (state_live W h b steady.live) ∙ up)

-- whether the bundle becomes resolved
abbrev pub becomes : World → World → Bundle → Bool
becomes W then b = is_resolved then b.bundle && not (is_resolved W b.bundle)

newly_same : (W : World) (h : List Entry) (added : List Wiring) (b : Bundle) → IsSteady W h b → is_newly W added (kept_of W h b) ≡ becomes W (with_wirings W added) b
newly_same W h added b steady =
    let used = option_map_or (λ (k : Known). is_in_use added k.id) (current_revision W b.bundle) false in
    ap (λ s. (number_of s == INSTALLED) && used) (state_live W h b steady.live)
    ∙ newly_by (b.bundle.0 == 0) (phase b.bundle h) (is_resolved W b.bundle) used (is_resolved (with_wirings W added) b.bundle) (resolved_or W added b.bundle) (up_by W h b steady)

-- the rows list the bundles that become resolved
pub listed_same : (W : World) (h : List Entry) (added : List Wiring) (bs : List Bundle) → ((b : Bundle) → In b bs → IsSteady W h b) → listed W added (map (kept_of W h) bs) ≡ map (λ (b : Bundle). b.bundle) (filter (becomes W (with_wirings W added)) bs)
listed_same W h added bs steady =
    filtered (is_newly W added) (becomes W (with_wirings W added)) (kept_of W h) (λ (r : BundleKept). r.bundle) (λ (b : Bundle). b.bundle) bs (λ b there. newly_same W h added b (steady b there)) (λ b. refl)

-- ---- the states that are set

abbrev is_listed : List BundleId → BundleKept → Bool
is_listed ids row = list_any (λ (id : BundleId). row.bundle.0 == id.0) ids

abbrev set_all : List BundleId → BundleKept → BundleKept
set_all ids row = cond (is_listed ids row) (record row { state = RESOLVED }) row

set_twice : (ids : List BundleId) (row : BundleKept) (t : Bool) → cond t (record row { state = RESOLVED }) (record row { state = RESOLVED }) ≡ record row { state = RESOLVED }
set_twice ids row true = refl
set_twice ids row false = refl

set_one : (b : BundleId) (ids : List BundleId) (row : BundleKept) (t : Bool) → (row.bundle.0 == b.0) ≡ t → set_all ids (cond t (record row { state = RESOLVED }) row) ≡ cond (t || is_listed ids row) (record row { state = RESOLVED }) row
set_one b ids row true is = set_twice ids row (is_listed ids row)
set_one b ids row false is = refl

set_more : (b : BundleId) (ids : List BundleId) (row : BundleKept) → set_all ids (set_in b RESOLVED row) ≡ set_all (b ∷ ids) row
set_more b ids row = set_one b ids row (row.bundle.0 == b.0) refl

all_set : (ids : List BundleId) (rows : List BundleKept) → with_resolved ids rows ≡ map (set_all ids) rows
all_set [] rows = map_itself rows
all_set (b ∷ ids) rows = all_set ids (with_state b RESOLVED rows) ∙ map_twice (set_all ids) (set_in b RESOLVED) rows ∙ (λ i. map (λ row. set_more b ids row i) rows)

-- ---- no two bundles have one id

pub AreDistinct : List Bundle → Type 0
AreDistinct [] = Unit {0}
AreDistinct (b ∷ bs) = ((c : Bundle) → In c bs → ¬ (c.bundle.0 ≡ b.bundle.0)) × AreDistinct bs

Rise : List BundleKept → Type 0
Rise rows = (i j : ℕ) (d : BundleKept) → i < j → j < length rows → bundle_number (get_or rows i d) < bundle_number (get_or rows j d)

at_of : (W : World) (h : List Entry) (bs : List Bundle) (c : Bundle) → In c bs → (k : ℕ) × (k < length (map (kept_of W h) bs)) × (get_or (map (kept_of W h) bs) k (kept_of W h c) ≡ kept_of W h c)
at_of W h [] c i = elim i [ ]
at_of W h (b ∷ bs) c (inl e) = (0, omega arith, ap (kept_of W h) (sym e))
at_of W h (b ∷ bs) c (inr i) = let r = at_of W h bs c i in (suc r.0, omega (arith, r.1), r.2)

distinct_by : (W : World) (h : List Entry) (bs : List Bundle) → Rise (map (kept_of W h) bs) → AreDistinct bs
unfolding AreDistinct Rise
distinct_by W h [] rise = tt
distinct_by W h (b ∷ bs) rise = (
  (λ c i same.
      let r = at_of W h bs c i in
      let below : b.bundle.0 < bundle_number (get_or (map (kept_of W h) bs) r.0 (kept_of W h c)) = rise 0 (suc r.0) (kept_of W h c) (omega arith) (omega (arith, r.1)) in
      let there = ap bundle_number r.2 in
      omega (arith, below, there, same)),
  distinct_by W h bs (λ i j d before within. rise (suc i) (suc j) d (omega (arith, before)) (omega (arith, within))),
)

pub distinct : (W : World) (h : List Entry) (bs : List Bundle) (table : TableRows) → AreInOrder table → table.rows ≡ map (kept_of W h) bs → AreDistinct bs
unfolding Rise
distinct W h bs table order is = distinct_by W h bs (subst Rise is (ids_rise table.rows order.rising))

-- ---- a listed bundle is one that passes

module _ (q : Bundle → Bool) where
  not_marked : (n : ℕ) (bs : List Bundle) → ((c : Bundle) → In c bs → ¬ (c.bundle.0 ≡ n)) → list_any (λ (id : BundleId). n == id.0) (map (λ (b : Bundle). b.bundle) (filter q bs)) ≡ false
  not_marked n [] others = refl
  not_marked n (b ∷ bs) others = not_by (q b) (ne_eqb n b.bundle.0 (λ e. others b (inl refl) (sym e))) (not_marked n bs (λ c i. others c (inr i)))
    where
      not_by : (t : Bool) → (n == b.bundle.0) ≡ false → list_any (λ (id : BundleId). n == id.0) (map (λ (b : Bundle). b.bundle) (filter q bs)) ≡ false →
          list_any (λ (id : BundleId). n == id.0) (map (λ (b : Bundle). b.bundle) (cond t (b ∷ filter q bs) (filter q bs))) ≡ false
      not_by true other more = λ i. other i || more i
      not_by false other more = more

  marked_here : (b : Bundle) (bs : List Bundle) (t : Bool) → ((c : Bundle) → In c bs → ¬ (c.bundle.0 ≡ b.bundle.0)) → list_any (λ (id : BundleId). b.bundle.0 == id.0) (map (λ (b : Bundle). b.bundle) (cond t (b ∷ filter q bs) (filter q bs))) ≡ t
  marked_here b bs true others = ap (λ s. s || list_any (λ (id : BundleId). b.bundle.0 == id.0) (map (λ (b : Bundle). b.bundle) (filter q bs))) (eq-eqb b.bundle.0 b.bundle.0 refl)
  marked_here b bs false others = not_marked b.bundle.0 bs others

  marked_later : (b c : Bundle) (bs : List Bundle) (t : Bool) → (c.bundle.0 == b.bundle.0) ≡ false → list_any (λ (id : BundleId). c.bundle.0 == id.0) (map (λ (b : Bundle). b.bundle) (filter q bs)) ≡ q c →
      list_any (λ (id : BundleId). c.bundle.0 == id.0) (map (λ (b : Bundle). b.bundle) (cond t (b ∷ filter q bs) (filter q bs))) ≡ q c
  marked_later b c bs true other more = ap (λ s. s || list_any (λ (id : BundleId). c.bundle.0 == id.0) (map (λ (b : Bundle). b.bundle) (filter q bs))) other ∙ more
  marked_later b c bs false other more = more

  marked : (bs : List Bundle) → AreDistinct bs → (c : Bundle) → In c bs → list_any (λ (id : BundleId). c.bundle.0 == id.0) (map (λ (b : Bundle). b.bundle) (filter q bs)) ≡ q c
  unfolding AreDistinct
  marked [] apart c i = elim i [ ]
  marked (b ∷ bs) apart c (inl e) = subst (λ (x : Bundle). list_any (λ (id : BundleId). x.bundle.0 == id.0) (map (λ (b : Bundle). b.bundle) (filter q (b ∷ bs))) ≡ q x) (sym e) (marked_here b bs (q b) apart.0)
  marked (b ∷ bs) apart c (inr i) = marked_later b c bs (q b) (ne_eqb c.bundle.0 b.bundle.0 (apart.0 c i)) (marked bs apart.1 c i)

-- ---- the rows after a resolve

kept_after : (W then : World) (h : List Entry) (b : Bundle) (t : Bool) → t ≡ becomes W then b → cond (becomes W then b) RESOLVED (number_of (state W h b.bundle)) ≡ number_of (state then h b.bundle) →
    cond t (record (kept_of W h b) { state = RESOLVED }) (kept_of W h b) ≡ kept_of then h b
kept_after W then h b true is same = λ i. record (kept_of W h b) { state = (ap (λ s. cond s RESOLVED (number_of (state W h b.bundle))) is ∙ same) i }
kept_after W then h b false is same = λ i. record (kept_of W h b) { state = (ap (λ s. cond s RESOLVED (number_of (state W h b.bundle))) is ∙ same) i }

-- the state in the world with the wirings
state_after : (W : World) (h : List Entry) (added : List Wiring) (b : Bundle) → IsSteady W h b → let then = with_wirings W added in cond (becomes W then b) RESOLVED (number_of (state W h b.bundle)) ≡ number_of (state then h b.bundle)
state_after W h added b steady =
    let then = with_wirings W added in
    ap (λ s. cond (becomes W then b) RESOLVED (number_of s)) (state_live W h b steady.live)
    ∙ state_by (b.bundle.0 == 0) (phase b.bundle h) (is_resolved W b.bundle) (is_resolved then b.bundle) (up_by W h b steady) (stays_resolved W added b.bundle)
    ∙ ap number_of (sym (state_live then h b steady.live))

-- the rows of the bundles in the world with the wirings
pub rows_after : (W : World) (h : List Entry) (added : List Wiring) (bs : List Bundle) → ((b : Bundle) → In b bs → IsSteady W h b) → AreDistinct bs →
    with_resolved (map (λ (b : Bundle). b.bundle) (filter (becomes W (with_wirings W added)) bs)) (map (kept_of W h) bs) ≡ map (kept_of (with_wirings W added) h) bs
rows_after W h added bs steady apart =
    let then = with_wirings W added in
    let ids = map (λ (b : Bundle). b.bundle) (filter (becomes W then) bs) in
    all_set ids (map (kept_of W h) bs)
    ∙ map_twice (set_all ids) (kept_of W h) bs
    ∙ map_same (λ b. set_all ids (kept_of W h b)) (kept_of then h) bs (λ b i.
    kept_after W then h b (is_listed ids (kept_of W h b)) (marked (becomes W then) bs apart b i) (state_after W h added b (steady b i)))

-- ---- listed bundles can be set

In-distinct : List BundleKept → Type 0
In-distinct [] = Unit {0}
In-distinct (r ∷ rs) = ((s : BundleKept) → In s rs → ¬ (bundle_number s ≡ bundle_number r)) × In-distinct rs

row_place : (rs : List BundleKept) (s : BundleKept) → In s rs → (k : ℕ) × (k < length rs) × (get_or rs k s ≡ s)
row_place [] s i = elim i [ ]
row_place (r ∷ rs) s (inl e) = (0, omega arith, sym e)
row_place (r ∷ rs) s (inr i) = let p = row_place rs s i in (suc p.0, omega (arith, p.1), p.2)

rows_distinct : (rs : List BundleKept) → Rise rs → In-distinct rs
unfolding In-distinct Rise
rows_distinct [] rise = tt
rows_distinct (r ∷ rs) rise = (
  (λ s i same.
      let p = row_place rs s i in
      let below : bundle_number r < bundle_number (get_or rs p.0 s) = rise 0 (suc p.0) s (omega arith) (omega (arith, p.1)) in
      let there = ap bundle_number p.2 in
      omega (arith, below, there, same)),
  rows_distinct rs (λ i j d before within. rise (suc i) (suc j) d (omega (arith, before)) (omega (arith, within))),
)

row_there : (rs : List BundleKept) (s : BundleKept) → In-distinct rs → In s rs → row_at s.bundle rs ≡ Some s
unfolding In-distinct
row_there [] s apart i = elim i [ ]
row_there (r ∷ rs) s apart (inl e) = ap (λ t. cond t (Some r) (find (has_bundle_id s.bundle) rs)) (eq-eqb (bundle_number r) (bundle_number s) (ap bundle_number (sym e))) ∙ ap Some (sym e)
row_there (r ∷ rs) s apart (inr i) = ap (λ t. cond t (Some r) (find (has_bundle_id s.bundle) rs)) (ne_eqb (bundle_number r) (bundle_number s) (λ e. apart.0 s i (sym e))) ∙ row_there rs s apart.1 i

-- the row of a bundle is found by it
pub row_live : (table : TableRows) (row : BundleKept) → AreInOrder table → In row table.rows → row_at row.bundle table.rows ≡ Some row
unfolding Rise
row_live table row order i = row_there table.rows row (rows_distinct table.rows (ids_rise table.rows order.rising)) i

and_first : (x y : Bool) → (x && y) ≡ true → x ≡ true
and_first true y is = refl
and_first false y is = absurd (cc is)

settable : (rows : List BundleKept) (s : BundleKept) → In-distinct rows → In s rows → (s.state == INSTALLED) ≡ true → IsSettable s.bundle rows
settable rows s apart i installed =
    let down : is_up s.state ≡ false = ap is_up (eqb-true s.state INSTALLED installed) in
    subst (λ o. IsSomeAnd o (λ (row : BundleKept). is_up row.state ≡ false)) (sym (row_there rows s apart i)) down

all_listed : (p : BundleKept → Bool) (P : BundleId → Type 0) (rs : List BundleKept) → ((s : BundleKept) → In s rs → p s ≡ true → P s.bundle) → All P (map (λ (r : BundleKept). r.bundle) (filter p rs))
all_listed p P [] each = All-nil P
all_listed p P (r ∷ rs) each = by_test (p r) refl (all_listed p P rs (λ s i. each s (inr i)))
  where
    by_test : (t : Bool) → p r ≡ t → All P (map (λ (r : BundleKept). r.bundle) (filter p rs)) → All P (map (λ (r : BundleKept). r.bundle) (cond t (r ∷ filter p rs) (filter p rs)))
    by_test true is more = All-cons P r.bundle (map (λ (r : BundleKept). r.bundle) (filter p rs)) (each r (inl refl) is) more
    by_test false is more = more

pub listed_settable : (W : World) (added : List Wiring) (table : TableRows) → AreInOrder table → All (λ b. IsSettable b table.rows) (listed W added table.rows)
unfolding Rise
listed_settable W added table order =
    let apart = rows_distinct table.rows (ids_rise table.rows order.rising) in
    all_listed (is_newly W added) (λ b. IsSettable b table.rows) table.rows (λ s i newly. settable table.rows s apart i (and_first (s.state == INSTALLED) (option_map_or (λ (k : Known). is_in_use added k.id) (current_revision W s.bundle) false) newly))

-- ---- what functions answer

pub settable_ok : {E : Type 0} (W : World) (added : List Wiring) (table : TableRows) (r : Result (List BundleId) E) → AreInOrder table → IfOk r (λ list. list ≡ listed W added table.rows) → IfOk r (All (λ b. IsSettable b table.rows))
settable_ok W added table (Ok list) order is = subst (All (λ b. IsSettable b table.rows)) (sym is) (listed_settable W added table order)
settable_ok W added table (Err e) order is = tt
