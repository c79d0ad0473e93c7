-- Values that are found by their decisions.
use Rattle.std.specs.Prelude.{◌≡◌, ℕ, Option}
use Rattle.std.specs.BTreeMap.{BTreeMap}
use Rattle.std.specs.Map.{lookup}
use Rattle.osgi_world.specs.Decisions.{Decision, Made, attaching, choose, pick, same_decision, value_made}
use Rattle.osgi_resolver_path.specs.declared.values.Key.{Key}
use Rattle.osgi_resolver_path.specs.declared.values.Key.TheVariants.{Attach, Choose, Pick}
use Rattle.osgi_resolver_path.specs.declared.values.Values.{Values}

abbrev pub decision_at : Key → Decision
decision_at (Attach h f) = attaching h f
decision_at (Choose h o i) = choose h (record { owner = o; index = i })
decision_at (Pick h o i p b k) = pick h (record { owner = o; index = i }) (record { provider = p; owner = b; index = k })

-- the value at the key of the same decision
abbrev pub value_by : BTreeMap Key ℕ → Decision → Option ℕ
value_by by_key d = lookup (λ k. same_decision d (decision_at k)) by_key.entries

abbrev pub value_in : Values → Decision → Option ℕ
value_in values d = value_by values.by_key d

-- each decision has the value with which it was made, and others have none
abbrev pub AreValues : Values → Made → Type 0
AreValues values D = (d : Decision) → value_in values d ≡ value_made D d
