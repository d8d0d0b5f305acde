-- Members that are joined already, and further ones.
use Rattle.std.proofs.Common.{◌≡◌, ℕ, ◌+◌, ◌<◌, ◌≤◌, List, [], ◌∷◌, ◌++◌, length, get_or, map, take, drop, refl, sym, ap, ap₂, subst, ◌∙◌, arith, append_assoc, append-nil}
use Rattle.std.proofs.lemmas.List.{map-append, get_or-append-add, length-append}
use Rattle.std.proofs.Math.Seq.{take-append_seam, drop-append_seam}
use Rattle.dd_formula.specs.declared.formula.Formula.{Formula}
use Rattle.dd_formula.specs.declared.formula.Formula.TheVariants.{And}
use Rattle.dd_build.specs.declared.formula.Connective.{Connective}
use Rattle.dd_build.specs.declared.formula.Connective.TheVariants.{All}
use Rattle.dd_store.specs.Held.{Held}
use Rattle.dd_build.specs.Built.{Keeps, IsOver, IsBuilt, IsWithin}
use Rattle.dd_build.specs.Results.{and_of}
use Rattle.dd_build.specs.Listing.{Listed, later_listing, listed, listing}
use Rattle.dd_build.specs.Formulas.{formula_tree, listing_trees, AreOver, IsListed, AreWithin, connected}
use Rattle.dd_build.proofs.ListingLaws.{listed_formula, listing-connected}
use Rattle.dd_build.proofs.Additions.{Adds-within, AreOver-front, AreWithin-front}
use Rattle.dd_build.proofs.Progress.{later_trees, Progress, member_over, member_within, join_over, join_within, Progress-next, IsListed-end}

abbrev formulas : List Listed → List Formula
formulas ms = map (λ m. m.formula) ms

-- the listing of further members is that of some, and then that of the rest behind them
later_append : (join : List Formula → Formula) (front : List Formula) (ms ns : List Listed) → later_listing join front (ms ++ ns) ≡ later_listing join front ms ++ later_listing join (front ++ formulas ms) ns
later_append join front [] ns = ap (λ fs. later_listing join fs ns) (sym (append-nil front))
later_append join front (m ∷ ms) ns =
    let next : List Formula = front ++ m.formula ∷ [] in
    ap (λ fs. m.listing ++ join next ∷ fs) (later_append join next ms ns ∙ ap (λ gs. later_listing join next ms ++ later_listing join gs ns) (append_assoc front (m.formula ∷ []) (formulas ms)))
    ∙ sym (append_assoc m.listing (join next ∷ later_listing join next ms) (later_listing join (front ++ formulas (m ∷ ms)) ns))

formulas_listed : (fs : List Formula) → formulas (map listed fs) ≡ fs
formulas_listed [] = refl
formulas_listed (f ∷ fs) = ap (λ g. g ∷ formulas (map listed fs)) (listed_formula f) ∙ ap (λ gs. f ∷ gs) (formulas_listed fs)

-- the listing of all members begins with that of the first ones
listing_further : (c : Connective) (first : Formula) (ms ns : List Formula) → listing (connected c (first ∷ ms)) ++ later_listing (connected c) (first ∷ ms) (map listed ns) ≡ listing (connected c (first ∷ (ms ++ ns)))
listing_further c first ms ns =
    ap (λ gs. gs ++ later_listing (connected c) (first ∷ ms) (map listed ns)) (listing-connected c (first ∷ ms))
    ∙ append_assoc (listing first) (later_listing (connected c) ((listed first).formula ∷ []) (map listed ms)) (later_listing (connected c) (first ∷ ms) (map listed ns))
    ∙ ap (λ gs. listing first ++ (later_listing (connected c) ((listed first).formula ∷ []) (map listed ms) ++ later_listing (connected c) gs (map listed ns))) (sym (ap (λ g. g ∷ formulas (map listed ms)) (listed_formula first) ∙ ap (λ gs. first ∷ gs) (formulas_listed ms)))
    ∙ ap (λ gs. listing first ++ gs) (sym (later_append (connected c) ((listed first).formula ∷ []) (map listed ms) (map listed ns)))
    ∙ ap (λ gs. listing first ++ later_listing (connected c) ((listed first).formula ∷ []) gs) (sym (map-append listed ms ns))
    ∙ sym (listing-connected c (first ∷ (ms ++ ns)))

-- so do its trees
trees_further : (old : Held) (c : Connective) (first : Formula) (ms ns : List Formula) → listing_trees old (connected c (first ∷ ms)) ++ later_trees old c (first ∷ ms) ns ≡ listing_trees old (connected c (first ∷ (ms ++ ns)))
trees_further old c first ms ns =
    sym (map-append (formula_tree old) (listing (connected c (first ∷ ms))) (later_listing (connected c) (first ∷ ms) (map listed ns)))
    ∙ ap (map (formula_tree old)) (listing_further c first ms ns)

-- the first members are joined, and so many of the rest with them
pub record Further (old now : Held) (firsts rest : List Formula) (i whole : ℕ) : Type 0 where
  pub head : Formula
  pub others : List Formula
  pub parts : firsts ≡ head ∷ others
  pub progress : Progress old now All head (others ++ rest) (length others + i) whole

-- a list that is not empty has a head
pub record Headed (fs : List Formula) : Type 0 where
  pub head : Formula
  pub others : List Formula
  pub parts : fs ≡ head ∷ others

headed : (fs : List Formula) → 0 < length fs → Headed fs
headed [] some = absurd (omega (arith, some))
headed (f ∷ fs) some = record { head = f; others = fs; parts = refl }

-- none in front
pub all_rest : (firsts rest : List Formula) → length firsts ≡ 0 → rest ≡ firsts ++ rest
all_rest [] rest e = refl
all_rest (f ∷ fs) rest e = absurd (omega (arith, e))

-- the first ones are joined
pub Further-start : (old now : Held) (firsts rest : List Formula) (whole : ℕ) → 0 < length firsts → Keeps old now → IsListed old now (And firsts) whole → Further old now firsts rest 0 whole
Further-start old now firsts rest whole some k built =
    let h = headed firsts some in
    let own : IsListed old now (And (h.head ∷ h.others)) whole = subst (λ fs. IsListed old now (And fs) whole) h.parts built in
    let taken : take (length h.others + 0) (h.others ++ rest) ≡ h.others = ap (λ n. take n (h.others ++ rest)) (omega arith) ∙ take-append_seam h.others rest in
    let left : drop (length h.others + 0) (h.others ++ rest) ≡ rest = ap (λ n. drop n (h.others ++ rest)) (omega arith) ∙ drop-append_seam h.others rest in
    record {
      head = h.head;
      others = h.others;
      parts = h.parts;
      progress = record {
        done = listing_trees old (And (h.head ∷ h.others));
        adds = record { keeps = k; trees_are = own.adds };
        left = ap₂ (λ xs ys. listing_trees old (And (h.head ∷ h.others)) ++ later_trees old All (h.head ∷ xs) ys) taken left ∙ trees_further old All h.head h.others rest;
        has = record { known = own.has.known; tree = own.has.tree ∙ ap (λ xs. formula_tree old (And (h.head ∷ xs))) (sym taken) };
      };
    }

-- they are too much
pub firsts_over : (old : Held) (firsts rest : List Formula) → 0 < length firsts → AreOver old (listing_trees old (And firsts)) → AreOver old (listing_trees old (And (firsts ++ rest)))
firsts_over old firsts rest some over =
    let h = headed firsts some in
    subst (λ fs. AreOver old (listing_trees old (And (fs ++ rest)))) (sym h.parts)
    (subst (AreOver old) (trees_further old All h.head h.others rest) (AreOver-front old (listing_trees old (And (h.head ∷ h.others))) (later_trees old All (h.head ∷ h.others) rest) (subst (λ fs. AreOver old (listing_trees old (And fs))) h.parts over)))

-- or a part of them is built
pub firsts_within : (old new : Held) (firsts rest : List Formula) → 0 < length firsts → AreWithin old new (listing_trees old (And firsts)) → AreWithin old new (listing_trees old (And (firsts ++ rest)))
firsts_within old new firsts rest some w =
    let h = headed firsts some in
    subst (λ fs. AreWithin old new (listing_trees old (And (fs ++ rest)))) (sym h.parts)
    (subst (AreWithin old new) (trees_further old All h.head h.others rest) (AreWithin-front old new (listing_trees old (And (h.head ∷ h.others))) (later_trees old All (h.head ∷ h.others) rest) (subst (λ fs. AreWithin old new (listing_trees old (And fs))) h.parts w)))

module _ (old now : Held) (firsts rest : List Formula) (i whole : ℕ) (p : Further old now firsts rest i whole) where
  -- what holds of all members in one list
  from_parts : (P : Formula → Type 0) → P (connected All (p.head ∷ (p.others ++ rest))) → P (And (firsts ++ rest))
  from_parts P h = subst (λ fs. P (And (fs ++ rest))) (sym p.parts) h

  module _ (f : Formula) (lt : i < length rest) (is : f ≡ get_or rest i f) where
    inside : length p.others + i < length (p.others ++ rest)
    inside = omega (arith, lt, length-append p.others rest)

    there : f ≡ get_or (p.others ++ rest) (length p.others + i) f
    there = is ∙ sym (get_or-append-add p.others rest i f)

    pub further_over : AreOver now (listing_trees now f) → AreOver old (listing_trees old (And (firsts ++ rest)))
    further_over over = from_parts (λ g. AreOver old (listing_trees old g)) (member_over old now All p.head (p.others ++ rest) (length p.others + i) whole p.progress f inside there over)

    pub further_within : (new : Held) → AreWithin now new (listing_trees now f) → AreWithin old new (listing_trees old (And (firsts ++ rest)))
    further_within new w = from_parts (λ g. AreWithin old new (listing_trees old g)) (member_within old now All p.head (p.others ++ rest) (length p.others + i) whole p.progress f inside there new w)

    module _ (mid : Held) (id : ℕ) (k : Keeps now mid) (built : IsListed now mid f id) where
      pub further_join_over : IsOver mid (and_of mid whole id) → AreOver old (listing_trees old (And (firsts ++ rest)))
      further_join_over over = from_parts (λ g. AreOver old (listing_trees old g)) (join_over old now All p.head (p.others ++ rest) (length p.others + i) whole p.progress f inside there mid id k built over)

      pub further_join_within : (new : Held) → IsWithin mid new (and_of mid whole id) → AreWithin old new (listing_trees old (And (firsts ++ rest)))
      further_join_within new w = from_parts (λ g. AreWithin old new (listing_trees old g)) (join_within old now All p.head (p.others ++ rest) (length p.others + i) whole p.progress f inside there mid id k built new w)

      pub Further-next : (new : Held) (joined : ℕ) → Keeps mid new → IsBuilt mid new (and_of mid whole id) joined → Further old new firsts rest (i + 1) joined
      Further-next new joined k' made = record {
        head = p.head;
        others = p.others;
        parts = p.parts;
        progress = subst (λ n. Progress old new All p.head (p.others ++ rest) n joined) (omega arith) (Progress-next old now All p.head (p.others ++ rest) (length p.others + i) whole p.progress f inside there mid id k built new joined k' made);
      }

  -- no more than that is built
  pub further_stopped : AreWithin old now (listing_trees old (And (firsts ++ rest)))
  further_stopped =
      from_parts (λ g. AreWithin old now (listing_trees old g))
      (subst (AreWithin old now) p.progress.left (AreWithin-front old now p.progress.done _ (Adds-within old now p.progress.done p.progress.adds)))

  -- all members are joined
  pub Further-end : length rest ≤ i → IsListed old now (And (firsts ++ rest)) whole
  Further-end past = from_parts (λ g. IsListed old now g whole) (IsListed-end old now All p.head (p.others ++ rest) (length p.others + i) whole p.progress (omega (arith, past, length-append p.others rest)))
