-- What the rendering computes; its definition is `Rendering` of osgi_session.
pub mod computed
