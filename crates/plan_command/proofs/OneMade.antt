-- Scenarios that are made of the same names are one search, and have as many live prefixes.
use Rattle.std.proofs.Common.{ℕ, ◌≡◌, List, Some, sym, ap, subst, ◌∙◌}
use Rattle.search_model.specs.declared.standing.Standing.{Standing}
use Rattle.search_model.specs.Problem.{position_named}
use Rattle.search_model.specs.Order.{standing_of}
use Rattle.search_model.proofs.SameSearch.{AreSame-sym, opening_same, path_legal, value_same_legal}
use Rattle.bound_tree.specs.Close.{HasMoreLive}
use Rattle.bound_tree.proofs.SameLive.{more_live_same}
use Rattle.tree_format.proofs.Said.{position_named-name}
use Rattle.residual_plan.specs.Forced.{IsForced}
use Rattle.residual_plan.proofs.Carried.{forced_is_one}
use Rattle.duo_search.specs.Product.{IsProduct}
use Rattle.duo_search.proofs.OneProduct.{product_is_one}
use Rattle.plan_command.specs.MadeLaws.{ForcedByNamesIsOne, PairedByNameIsOne, FewLiveStays}
use Rattle.plan_command.proofs.OneReason.{one_prefix_is_named}

pub forced_by_names_is_one : ForcedByNamesIsOne
forced_by_names_is_one p q r names sound (_, (flown, is, one)) (_, (other, also, two)) =
    let prefix : flown ≡ other = one_prefix_is_named p names flown other sound is.0 also.0 in
    forced_is_one p q r other (subst (λ (x : List ℕ). IsForced p x q) prefix one) two

pub paired_by_name_is_one : PairedByNameIsOne
paired_by_name_is_one p q r name sound (made, (second, (within, named), one)) (like, (other, (inside, same), two)) =
    let both : Some second ≡ Some other = sym (position_named-name p sound second within) ∙ ap (position_named p) (named ∙ sym same) ∙ position_named-name p sound other inside in
    let start : second ≡ other = cc in
    product_is_one p q r other made like (subst (λ (a : ℕ). IsProduct p a q) start one) two

pub few_live_stays : FewLiveStays
few_live_stays q r limit sound like same (opening, is, few) =
    let value = value_same_legal q r same sound opening (path_legal q r same sound opening is.path) in
    let standing : standing_of r opening ≡ standing_of q opening = ap (λ (v : ℕ). record { path = opening; value = v }) (sym value) in (
      opening,
      (opening_same q r same sound opening).0 is,
      λ more. few (subst (λ (s : Standing). HasMoreLive q s limit) standing (more_live_same r q (standing_of r opening) limit like (AreSame-sym q r same) more)),
    )
