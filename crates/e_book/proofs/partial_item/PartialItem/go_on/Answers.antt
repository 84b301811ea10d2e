use Rattle.e_book.proofs.partial_item.PartialItem.go_on.Goals as goal

pub take-requires-clause-known : goal.take-requires-clause-known
take-requires-clause-known c = c.requires.partial_item.few c.if-self.false
