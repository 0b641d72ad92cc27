-- What only the representation needs: the nodes, what each keeps, and how they change.
pub mod FormsView
pub mod Lists
pub mod Places
pub mod Trees
