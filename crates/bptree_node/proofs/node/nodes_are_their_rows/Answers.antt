use Rattle.bptree_node.proofs.NodePages.{leaf_is_page, leaf_is_read, inner_is_page, inner_is_read, leaf_spells, inner_spells}
use Rattle.bptree_node.proofs.node.nodes_are_their_rows.Goals as goal

pub returns : goal.returns
returns c = record {
  leaf = leaf_is_read;
  inner = inner_is_read;
  leaf_bytes = leaf_is_page;
  inner_bytes = inner_is_page;
  leaf_back = λ page entries is. leaf_spells page is entries;
  inner_back = λ page branches is. inner_spells page is branches;
}
