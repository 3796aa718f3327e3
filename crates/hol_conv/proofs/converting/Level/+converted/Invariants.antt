use Rattle.std.proofs.Common.{ℕ, ◌+◌, ◌*◌, ◌-◌, drop, IsSome}
use Rattle.hol_model.specs.declared.limits.TheConstants.{DESCENTS_LIMIT}
use Rattle.hol_model.specs.Kernel.Rules.{dest_equation}
use Rattle.hol_model.specs.Refining.Conversions.{repeatc}
use Rattle.hol_laws_refiners.proofs.Chains.{ThencSoFar}
use Rattle.hol_laws_refiners.proofs.Repeating.{JoinedSoFar}
use Rattle.hol_theorem_library.specs.Library.{IsLibrary, IsContinued, store_in}
use Rattle.hol_conv.specs.Converted.{theorem_of, IsAnswerOf}
use Rattle.hol_conv.specs.Leaves.{stands_for, all_stand_for, thenc_of, orelsec_of}
use Rattle.hol_conv.specs.Answers.{top_depth_again, rest_of_top_depth}
use Rattle.hol_conv.specs.Chains.{IsChainFrom, proved_by}
use Rattle.hol_conv.proofs.Sizes.{size_of, sizes_of}
use Rattle.hol_conv.proofs.Choosing.{ChoosesSoFar}
use Rattle.hol_conv.proofs.converting.Level.«+converted».Given as goal

-- ---- the expression's size first, then the descents that are left

abbrev pub decreases-converted : goal.decreases-converted
decreases-converted g l = 12 * size_of l.conv.now + 7 * (DESCENTS_LIMIT - l.self.now.depth) + 5

abbrev pub decreases-thenc : goal.decreases-thenc
decreases-thenc g l = 12 * (size_of l.convs.first.now + sizes_of l.convs.others.now) + 7 * (DESCENTS_LIMIT - l.self.now.depth) + 6

abbrev pub decreases-orelsec : goal.decreases-orelsec
decreases-orelsec g l = 12 * (size_of l.convs.first.now + sizes_of l.convs.others.now) + 7 * (DESCENTS_LIMIT - l.self.now.depth) + 6

abbrev pub decreases-repeatc : goal.decreases-repeatc
decreases-repeatc g l = 12 * size_of l.conv.now + 7 * (DESCENTS_LIMIT - l.self.now.depth) + 7

abbrev pub decreases-repeat_on : goal.decreases-repeat_on
decreases-repeat_on g l = 12 * size_of l.conv.now + 7 * (DESCENTS_LIMIT - l.self.now.depth) + 6

abbrev pub decreases-below : goal.decreases-below
decreases-below g l = 12 * size_of l.conv.now + 7 * (DESCENTS_LIMIT - (l.self.now.depth + 1)) + 6

abbrev pub decreases-rand_conv : goal.decreases-rand_conv
decreases-rand_conv g l = 12 * size_of l.conv.now + 7 * (DESCENTS_LIMIT - l.self.now.depth)

abbrev pub decreases-rator_conv : goal.decreases-rator_conv
decreases-rator_conv g l = 12 * size_of l.conv.now + 7 * (DESCENTS_LIMIT - l.self.now.depth)

abbrev pub decreases-abs_conv : goal.decreases-abs_conv
decreases-abs_conv g l = 12 * size_of l.conv.now + 7 * (DESCENTS_LIMIT - l.self.now.depth)

abbrev pub decreases-sub_conv : goal.decreases-sub_conv
decreases-sub_conv g l = 12 * size_of l.conv.now + 7 * (DESCENTS_LIMIT - l.self.now.depth) + 1

abbrev pub decreases-depth_conv : goal.decreases-depth_conv
decreases-depth_conv g l = 12 * size_of l.deep.conv.now + 7 * (DESCENTS_LIMIT - l.self.now.depth) + 2

abbrev pub decreases-once_depth_conv : goal.decreases-once_depth_conv
decreases-once_depth_conv g l = 12 * size_of l.deep.conv.now + 7 * (DESCENTS_LIMIT - l.self.now.depth) + 2

abbrev pub decreases-top_depth_conv : goal.decreases-top_depth_conv
decreases-top_depth_conv g l = 12 * size_of l.deep.conv.now + 7 * (DESCENTS_LIMIT - l.self.now.depth) + 4

abbrev pub decreases-top_depth_rest : goal.decreases-top_depth_rest
decreases-top_depth_rest g l = 12 * size_of l.deep.conv.now + 7 * (DESCENTS_LIMIT - l.self.now.depth) + 3

abbrev pub decreases-top_depth_on : goal.decreases-top_depth_on
decreases-top_depth_on g l = 12 * size_of l.deep.conv.now + 7 * (DESCENTS_LIMIT - l.self.now.depth) + 2

-- ---- loops

abbrev pub invariant-thenc-loop-other : goal.invariant-thenc-loop-other
invariant-thenc-loop-other g l =
    ThencSoFar l.fn.library.recorder.theory (store_in l.fn.library) (g.L.Leaves.hosts l.self.leaves.now) l.self.depth
    l.fn.fuel.left (thenc_of (g.L.Leaves.means l.self.leaves.now) l.convs.first.now l.convs.others.now) l.t l.fuel.left (theorem_of l.fn.library.recorder.theory l.t l.made)
    (all_stand_for (g.L.Leaves.means l.self.leaves.now) (drop l.other-index l.convs.others.now))
    × IsContinued l.fn.library l.library
    × IsLibrary l.library
    × IsAnswerOf l.library l.t l.made
    × IsSome (dest_equation (theorem_of l.fn.library.recorder.theory l.t l.made).conclusion)

abbrev pub invariant-orelsec-loop-other : goal.invariant-orelsec-loop-other
invariant-orelsec-loop-other g l =
    ChoosesSoFar l.fn.library.recorder.theory (store_in l.fn.library) (g.L.Leaves.hosts l.self.leaves.now) l.self.depth
    l.fn.fuel.left (orelsec_of (g.L.Leaves.means l.self.leaves.now) l.convs.first.now l.convs.others.now) l.t l.fuel.left l.fault (all_stand_for (g.L.Leaves.means l.self.leaves.now) (drop l.other-index l.convs.others.now))
    × IsContinued l.fn.library l.library
    × IsLibrary l.library

abbrev pub invariant-repeat_on-loop-chain : goal.invariant-repeat_on-loop-chain
invariant-repeat_on-loop-chain g l =
    ((first : ℕ)
    → JoinedSoFar l.fn.library.recorder.theory (store_in l.fn.library) (g.L.Leaves.hosts l.self.leaves.now) l.self.depth
    first (repeatc (stands_for (g.L.Leaves.means l.self.leaves.now) l.conv)) l.t l.fn.fuel.left (repeatc (stands_for (g.L.Leaves.means l.self.leaves.now) l.conv))
    (proved_by l.fn.library.recorder.theory l.fn.chain) l.fn.chain.current
    → JoinedSoFar l.fn.library.recorder.theory (store_in l.fn.library) (g.L.Leaves.hosts l.self.leaves.now) l.self.depth
    first (repeatc (stands_for (g.L.Leaves.means l.self.leaves.now) l.conv)) l.t l.fuel.left (repeatc (stands_for (g.L.Leaves.means l.self.leaves.now) l.conv))
    (proved_by l.fn.library.recorder.theory l.chain) l.chain.current)
    × IsContinued l.fn.library l.library
    × IsLibrary l.library
    × IsChainFrom l.library l.t l.chain

abbrev pub decreases-repeat_on-loop-chain : goal.decreases-repeat_on-loop-chain
decreases-repeat_on-loop-chain g l = l.fuel.left

abbrev pub invariant-top_depth_on-loop-chain : goal.invariant-top_depth_on-loop-chain
invariant-top_depth_on-loop-chain g l =
    ((first : ℕ)
    → JoinedSoFar l.fn.library.recorder.theory (store_in l.fn.library) (g.L.Leaves.hosts l.self.leaves.now) l.self.depth
    first (rest_of_top_depth (stands_for (g.L.Leaves.means l.self.leaves.now) l.deep.part.now)) l.t l.fn.fuel.left (top_depth_again (stands_for (g.L.Leaves.means l.self.leaves.now) l.deep.part.now))
    (proved_by l.fn.library.recorder.theory l.fn.chain) l.fn.chain.current
    → JoinedSoFar l.fn.library.recorder.theory (store_in l.fn.library) (g.L.Leaves.hosts l.self.leaves.now) l.self.depth
    first (rest_of_top_depth (stands_for (g.L.Leaves.means l.self.leaves.now) l.deep.part.now)) l.t l.fuel.left (top_depth_again (stands_for (g.L.Leaves.means l.self.leaves.now) l.deep.part.now))
    (proved_by l.fn.library.recorder.theory l.chain) l.chain.current)
    × IsContinued l.fn.library l.library
    × IsLibrary l.library
    × IsChainFrom l.library l.t l.chain

abbrev pub decreases-top_depth_on-loop-chain : goal.decreases-top_depth_on-loop-chain
decreases-top_depth_on-loop-chain g l = l.fuel.left
