-- No goal of a table has a solution exactly where the table meets its checks.
use Rattle.std.proofs.Common.{◌≡◌, ◌↔◌, ℕ, List, [], ◌∷◌, ◌++◌, length, refl, sym, subst}
use Rattle.std.specs.List.{flat_map, range_with_len, All, AllByRecursion as Each}
use Rattle.scr_spec.specs.Data.{Data}
use Rattle.scr_spec.specs.declared.table.Heading.{Heading}
use Rattle.scr_spec.specs.declared.table.Heading.TheVariants.{Condition, Event as Events, Modes}
use Rattle.scr_spec.specs.declared.table.Table.{Table}
use Rattle.prove_goals.specs.declared.goal.Goal.{Goal}
use Rattle.scr_depend.specs.Meets.{CoversAt}
use Rattle.prove_goals.proofs.Asked.{MeetsGoals}
use Rattle.prove_goals.specs.Goals.{changes_in, columns_in, disjoint_goals, cover_goals, range_goals, table_goals}
use Rattle.prove_goals.proofs.Lists.{each_all, each_append}
use Rattle.prove_goals.proofs.Disjoint.{Told, HasNone, disjoint_law}
use Rattle.prove_goals.proofs.Ranges.{range_law}
use Rattle.prove_goals.proofs.Cover.{IsSplitByMode, cover_law}

pub each_two : {X Y : Type 0} (P : Y → Type 0) (f g : X → List Y) (xs : List X)
    → Each P (flat_map (λ x. f x ++ g x) xs) ↔ (Each P (flat_map f xs) × Each P (flat_map g xs))
each_two P f g [] = ((λ h. (tt, tt)), (λ h. tt))
each_two P f g (x ∷ xs) =
    let here = each_append P (f x ++ g x) (flat_map (λ y. f y ++ g y) xs) in
    let both = each_append P (f x) (g x) in
    let rest = each_two P f g xs in
    let left = each_append P (f x) (flat_map f xs) in
    let right = each_append P (g x) (flat_map g xs) in (
      (λ h. let w = here.0 h in let u = both.0 w.0 in let v = rest.0 w.1 in (left.1 (u.0, v.0), right.1 (u.1, v.1))),
      (λ h. let u = left.0 h.0 in let v = right.0 h.1 in here.1 (both.1 (u.0, v.0), rest.1 (u.1, v.1))),
    )

none_there : (P : Goal → Type 0) (f : ℕ → List Goal) (xs : List ℕ) → ((k : ℕ) → f k ≡ []) → Each P (flat_map f xs)
none_there P f [] h = tt
none_there P f (x ∷ xs) h = (each_append P (f x) (flat_map f xs)).1 (subst (Each P) (sym (h x)) tt, none_there P f xs h)

-- the rows of a condition table share the modes out
abbrev pub MustSplit : Data → Table → Heading → Type 0
MustSplit spec table Condition = IsSplitByMode spec table
MustSplit spec table Events = Unit {0}
MustSplit spec table Modes = Unit {0}

cover_at : (spec : Data) (table : Table) (order need : List ℕ) (h : Heading) → table.heading ≡ h → MustSplit spec table h
    → Each (HasNone spec order need table) (flat_map (cover_goals h) (range_with_len 0 (length table.rows))) ↔ CoversAt spec table h
cover_at spec table order need Condition e split = cover_law spec table order need e split
cover_at spec table order need Events e split = ((λ h. tt), (λ h. none_there _ (cover_goals Events) (range_with_len 0 (length table.rows)) (λ k. refl)))
cover_at spec table order need Modes e split = ((λ h. tt), (λ h. none_there _ (cover_goals Modes) (range_with_len 0 (length table.rows)) (λ k. refl)))

pub table_law : (spec : Data) (table : Table) (order need : List ℕ) → Told spec order need table.variable → MustSplit spec table table.heading
    → All (HasNone spec order need table) (table_goals spec table) ↔ MeetsGoals spec table
table_law spec table order need told split =
    let U = HasNone spec order need table in
    let n = columns_in table in
    let rows = range_with_len 0 (length table.rows) in
    let cs = changes_in spec table.heading in
    let d = λ (row : ℕ). disjoint_goals cs row (n row) in
    let c = cover_goals table.heading in
    let r = λ (row : ℕ). range_goals spec cs table row (n row) in
    let outer = each_two U (λ row. d row ++ c row) r rows in
    let inner = each_two U d c rows in
    let all = each_all U (table_goals spec table) in
    let dl = disjoint_law spec table order need told in
    let cl = cover_at spec table order need table.heading refl split in
    let rl = range_law spec table order need told in (
      (λ h. let w = outer.0 (all.0 h) in let v = inner.0 w.0 in record { disjoint = dl.0 v.0; covers = cl.0 v.1; in_range = rl.0 w.1 }),
      (λ q. all.1 (outer.1 (inner.1 (dl.1 q.disjoint, cl.1 q.covers), rl.1 q.in_range))),
    )
